pub mod Follows
pub mod Columns
pub mod Listed
pub mod Blocks
pub mod Logs
pub mod Lowest
pub mod Guesses
