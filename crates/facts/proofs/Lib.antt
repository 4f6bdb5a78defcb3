pub mod Naming
pub mod Shaping
mod Told
mod Once
