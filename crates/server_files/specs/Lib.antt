pub mod Progress
pub mod ReadIn
pub mod Versions
pub mod Saved
