pub mod Memberships
pub mod Closures
