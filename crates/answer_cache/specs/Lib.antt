pub mod Parts
pub mod Questions
pub mod Kept
pub mod inside
