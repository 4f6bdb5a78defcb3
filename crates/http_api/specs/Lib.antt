pub mod Heads
pub mod Routes
pub mod Replies
pub mod Connection
pub mod Talks
pub mod OneText
pub mod inside
