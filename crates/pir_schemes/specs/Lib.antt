pub mod Costs
pub mod Laws
pub mod Masks
pub mod Parts
pub mod Plans
pub mod Retrievals
pub mod Buffers
pub mod Schemes
