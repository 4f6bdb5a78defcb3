pub mod Spelled
pub mod Named
pub mod Texts
pub mod Packed
pub mod Contents
