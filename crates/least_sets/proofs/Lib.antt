pub mod Gives
pub mod Laws
pub mod StepLemmas
pub mod Free
pub mod Solved
pub mod Found
pub mod WalkLemmas
pub mod GroupLemmas
