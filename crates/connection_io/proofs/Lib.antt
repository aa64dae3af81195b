pub mod Parts
pub mod Pairs
pub mod ManyTurns
