pub mod Accepting
pub mod Drafting
pub mod Sessions
pub mod Turns
