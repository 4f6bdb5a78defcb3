-- What no promise rests on, which a reader of the promises can pass over.
pub mod Changing
pub mod Growing
pub mod Handing
pub mod Leading
pub mod Named
pub mod Noting
pub mod Putting
