pub mod Graph
pub mod Groups
