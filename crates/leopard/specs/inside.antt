pub mod Asking
pub mod Building
pub mod Closing
pub mod Codes
pub mod Direct
pub mod Parts
pub mod Unnamed
