pub mod Lengths
pub mod Quiet
pub mod Sizes
pub mod Places
pub mod SlotLists
pub mod Layouts
pub mod RecordRows
