pub mod Splitting
pub mod Readings
