pub mod Counts
pub mod Durations
pub mod Entries
pub mod Metrics
pub mod Moments
pub mod Replies
pub mod Requests
pub mod Scans
