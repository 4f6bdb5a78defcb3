-- What no promise rests on, which a reader of the promises can pass over.
pub mod Under
pub mod Searches
pub mod Ending
pub mod Reads
pub mod Running
pub mod Reading
pub mod Asked
pub mod Given
