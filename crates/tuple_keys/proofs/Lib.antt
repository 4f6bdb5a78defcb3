pub mod Cutting
pub mod Joining
pub mod Packing
pub mod Parts
pub mod Prefixes
pub mod Sameness
pub mod Spellings
