pub mod OrderLemmas
pub mod Served
pub mod Afterwards
pub mod PushLemmas
pub mod Calls
