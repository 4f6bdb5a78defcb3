pub mod Telling
pub mod Noted
pub mod Layers
pub mod Arcs
pub mod Asked
pub mod inside
