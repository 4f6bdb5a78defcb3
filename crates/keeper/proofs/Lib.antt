pub mod Crossing
pub mod Doing
pub mod Kept
pub mod Shown
pub mod NeverBack
pub mod Ahead
pub mod Told
pub mod Changed
