pub mod Watched
pub mod Replays
