-- How the entries stand in memory. No promise rests on it.
pub mod Blocks
pub mod Ends
pub mod Places
pub mod Walks
pub mod Written
