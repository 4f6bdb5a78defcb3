pub mod Texts
pub mod inside
