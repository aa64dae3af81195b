pub mod Given
pub mod Secrets
pub mod Statuses
pub mod Values
