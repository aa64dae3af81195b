pub mod Steps
pub mod Crashes
