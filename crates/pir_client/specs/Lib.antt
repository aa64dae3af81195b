pub mod Failures
pub mod Tasks
pub mod FolderTasks
pub mod Older
