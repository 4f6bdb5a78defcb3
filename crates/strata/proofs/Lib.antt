pub mod Orders
pub mod Trails
pub mod Spreads
pub mod Ways
pub mod Bounds
pub mod Raising
pub mod Answering
