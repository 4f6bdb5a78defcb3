pub mod Files
pub mod Runs
pub mod Connections
pub mod Over
pub mod inside
