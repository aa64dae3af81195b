pub mod Bodies
pub mod Chains
pub mod Cuts
pub mod Walk
pub mod InTurn
