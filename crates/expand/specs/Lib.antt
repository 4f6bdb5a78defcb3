pub mod UsersetTree
pub mod Tree
pub mod Meaning
pub mod Viewed
pub mod Causes
pub mod inside
