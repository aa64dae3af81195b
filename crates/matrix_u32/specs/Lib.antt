pub mod Sum
pub mod Matrix
pub mod Blocks
pub mod Lending
pub mod Laws
