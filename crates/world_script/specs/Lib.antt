pub mod Texts
pub mod Lines
pub mod Scripts
pub mod Progress
