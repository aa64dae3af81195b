pub mod Files
pub mod Reading
pub mod Laws
pub mod Texts
pub mod Partial
