pub mod Ending
pub mod Reported
pub mod Stepping
pub mod Moves
pub mod Playing
pub mod Values
pub mod Words
