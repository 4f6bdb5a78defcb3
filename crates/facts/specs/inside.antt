-- What no promise rests on, which a reader of the promises can pass over.
pub mod Tables
pub mod Shapes
pub mod Growing
pub mod Codes
