pub mod World
pub mod Least
pub mod Steps
pub mod Walks
pub mod Groups
