pub mod Wrote
pub mod Waiting
pub mod Tracking
