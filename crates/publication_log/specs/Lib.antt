pub mod Publications
pub mod Builders
pub mod Entries
pub mod Logs
pub mod Steps
pub mod Crashes
pub mod Laws
pub mod Opened
