pub mod Text
pub mod Machine
pub mod Served
pub mod PendingLine
pub mod Going
