pub mod Found
pub mod Causes
pub mod Law
pub mod inside
