pub mod Turned
pub mod Complete
pub mod inside
