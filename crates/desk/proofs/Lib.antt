pub mod Standings
pub mod Changing
pub mod Agreeing
pub mod Accepting
pub mod Sound
pub mod Unposted
pub mod Judged
