pub mod Attending
pub mod Patience
pub mod Served
pub mod Sides
pub mod Turning
pub mod Turns
