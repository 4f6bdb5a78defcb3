mod Listed
mod Past
mod Tables
mod Replaying
mod Putting
mod Stepwise
mod Seen
mod Revised
