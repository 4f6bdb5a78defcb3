pub mod Watching
pub mod MarkedNodes
pub mod Outcomes
pub mod Basing
pub mod Indexing
pub mod Knowing
pub mod Following
pub mod Taking
