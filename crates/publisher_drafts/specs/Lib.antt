pub mod Merging
pub mod Judging
pub mod Texts
pub mod Lines
pub mod Laws
