-- What the desk may answer to each call, and what it holds after that.
pub mod Ask
pub mod Change
