pub mod Digit
pub mod Packed
pub mod Carried
pub mod Rows
