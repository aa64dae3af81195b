pub mod Alike
pub mod Steps
pub mod Whole
