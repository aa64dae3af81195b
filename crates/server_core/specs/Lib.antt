pub mod Serving
pub mod Sessions
pub mod Cores
pub mod Courses
pub mod Laws
