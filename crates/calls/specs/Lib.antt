pub mod Showing
pub mod Beginning
pub mod Questions
pub mod Changes
pub mod steps
pub mod Rules
pub mod Failing
