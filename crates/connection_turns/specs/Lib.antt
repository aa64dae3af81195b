pub mod Calls
pub mod Sizes
pub mod Connections
pub mod Runs
pub mod Turns
pub mod Saving
