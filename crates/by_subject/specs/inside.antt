-- How the tuples stand in memory, and what loops have done so far. No promise rests on it.
pub mod Texts
pub mod Putting
pub mod Standing
