pub mod Looks
pub mod Fill
pub mod Candidates
pub mod Alike
pub mod Gather
pub mod LevelSteps
pub mod OrderedSets
