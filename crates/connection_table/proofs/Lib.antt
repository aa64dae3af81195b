pub mod Largest
pub mod Turned
