pub mod Makings
pub mod Moves
