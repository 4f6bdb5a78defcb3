-- What no promise rests on, which a reader of the promises can pass over.
pub mod Pages
pub mod Underway
pub mod Leading
pub mod Reach
pub mod Walking
