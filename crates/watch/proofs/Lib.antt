pub mod Alike
pub mod Paging
pub mod Ordered
