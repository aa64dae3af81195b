pub mod Courses
pub mod Outputs
pub mod OnceTurns
pub mod Names
