pub mod Awaiting
pub mod Moves
pub mod Deeds
pub mod Replies
pub mod Steps
pub mod Saving
