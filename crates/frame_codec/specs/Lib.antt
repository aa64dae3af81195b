pub mod Numbers
pub mod Rows
pub mod Frames
pub mod Laws
pub mod Streams
pub mod Refusals
