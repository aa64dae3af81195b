pub mod Transcripts
pub mod Sent
pub mod Runs
pub mod Kept
pub mod Laws
