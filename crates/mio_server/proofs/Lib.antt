pub mod Concluding
pub mod Flags
pub mod Idle
pub mod Leaving
pub mod Marks
pub mod Noted
