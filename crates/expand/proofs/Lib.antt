pub mod Meanings
pub mod Making
pub mod Measures
pub mod Paths
pub mod Relations
pub mod Once
