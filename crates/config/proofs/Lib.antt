pub mod ByName
pub mod Distinct
pub mod Keeping
pub mod Places
pub mod Searching
pub mod StepLemmas
pub mod Tested
pub mod Typing
