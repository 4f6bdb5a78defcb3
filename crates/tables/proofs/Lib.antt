pub mod Lasting
pub mod Room
pub mod Absent
pub mod Storing
