pub mod Ascending
pub mod Merges
pub mod Maps
pub mod Verdicts
