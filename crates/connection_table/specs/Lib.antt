pub mod Drafting
pub mod Ending
pub mod Holding
pub mod Judging
pub mod Places
pub mod Timing
pub mod Watching
