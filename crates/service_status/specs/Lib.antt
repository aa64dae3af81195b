pub mod Lines
pub mod Stopping
pub mod Visiting
