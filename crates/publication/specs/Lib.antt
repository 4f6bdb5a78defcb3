pub mod World
pub mod WorldParts
pub mod Runs
pub mod Keeping
pub mod inside
