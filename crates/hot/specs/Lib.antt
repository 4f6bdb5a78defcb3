pub mod Depending
pub mod Kept
pub mod Nodes
pub mod inside
