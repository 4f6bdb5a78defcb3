pub mod Versions
pub mod Texts
pub mod Named
pub mod Ranges
pub mod Inline
