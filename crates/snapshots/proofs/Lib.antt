pub mod OrderedTuples
