pub mod Opening
pub mod Device
pub mod Leaving
pub mod Storing
pub mod Changing
pub mod Limits
pub mod Listing
