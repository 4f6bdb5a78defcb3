pub mod TableChanges
pub mod Posts
pub mod Changes
pub mod Installing
pub mod Made
pub mod Invariant
pub mod inside
