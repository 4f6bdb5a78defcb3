-- What no promise rests on, which a reader of the promises can pass over.
pub mod Together
