pub mod Having
pub mod Rising
pub mod Placing
pub mod Merging
pub mod Numbering
pub mod Positions
pub mod Sameness
