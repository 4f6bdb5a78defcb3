pub mod Names
pub mod Spelling
pub mod Order
pub mod Calls
pub mod Refusals
