pub mod Sets
pub mod Places
pub mod Naming
pub mod Exact
