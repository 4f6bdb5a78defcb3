-- What no promise rests on, which a reader of the promises can pass over.
pub mod Codes
pub mod Counting
pub mod Places
pub mod Reading
