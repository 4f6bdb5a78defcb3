pub mod Deeds
pub mod Kept
pub mod Shown
pub mod Questions
pub mod Fronts
pub mod Coded
