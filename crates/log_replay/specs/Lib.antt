pub mod Replays
pub mod Records
pub mod Laws
