pub mod Listing
pub mod Rooms
pub mod Grouped
pub mod Round
pub mod Settled
pub mod Walked
pub mod AfterChange
pub mod Swept
