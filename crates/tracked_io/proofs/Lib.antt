pub mod Appending
pub mod Waiting
