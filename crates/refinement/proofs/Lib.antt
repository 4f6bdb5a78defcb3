pub mod Leading
pub mod Posting
pub mod Calls
pub mod Asking
