pub mod Snapshots
pub mod Migrations
pub mod Widenings
pub mod Verdicts
pub mod Laws
pub mod Names
pub mod Copies
