pub mod Refreshing
pub mod Answered
pub mod Beginning
pub mod Failing
