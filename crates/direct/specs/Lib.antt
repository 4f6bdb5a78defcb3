pub mod Named
pub mod Before
pub mod Revisions
pub mod inside
