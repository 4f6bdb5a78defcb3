pub mod Numbers
pub mod Among
pub mod Telling
mod Crossing
