-- Why a fixed text fails: want of memory, or the device.
pub mod Causes
pub mod Failing
pub mod Parts
pub mod Rewritten
pub mod Storable
pub mod Shapes
pub mod Checks
pub mod Setting
pub mod Configuring
pub mod Closing
pub mod Deleting
pub mod Beginning
pub mod Together
pub mod Queries
pub mod Creation
pub mod FirstValues
