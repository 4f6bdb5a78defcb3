-- What no promise rests on, which a reader of the promises can pass over.
pub mod Parts
pub mod Conditions
pub mod Forms
