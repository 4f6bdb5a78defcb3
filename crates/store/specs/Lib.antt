pub mod Written
pub mod History
pub mod StoreParts
pub mod Refused
pub mod inside
