pub mod Graph
pub mod inside
