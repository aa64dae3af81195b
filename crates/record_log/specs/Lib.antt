pub mod OldRecords
pub mod Logs
pub mod Steps
pub mod Laws
