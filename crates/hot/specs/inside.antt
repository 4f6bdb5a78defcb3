-- What no promise rests on, which a reader of the promises can pass over.
pub mod Named
pub mod Events
pub mod Remembering
pub mod Following
pub mod Passing
