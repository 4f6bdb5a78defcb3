pub mod Same
pub mod Entries
pub mod Looking
pub mod Keeping
