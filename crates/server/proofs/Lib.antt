pub mod Crossing
pub mod NeverBack
pub mod Pairs
pub mod Sending
pub mod Served
pub mod Turning
