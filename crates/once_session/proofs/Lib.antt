pub mod CourseLemmas
pub mod TurnLemmas
pub mod RunLemmas
pub mod OverLemmas
pub mod OverPairs
