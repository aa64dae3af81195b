pub mod Double
pub mod Laws
pub mod Recovery
pub mod Buffers
pub mod Steps
