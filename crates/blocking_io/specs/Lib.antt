pub mod Prefixes
pub mod Serving
pub mod ServingTurns
pub mod Conversing
pub mod ConversingTurns
pub mod Names
