-- What no promise rests on, which a reader of the promises can pass over.
pub mod Candidates
pub mod Given
pub mod Members
pub mod Rounds
pub mod Source
