pub mod LaneSums
pub mod RowSums
pub mod BlockSums
pub mod PackedSums
pub mod SplitDigits
