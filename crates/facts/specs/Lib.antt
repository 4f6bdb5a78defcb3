pub mod Numbers
pub mod Telling
pub mod Asking
pub mod inside
