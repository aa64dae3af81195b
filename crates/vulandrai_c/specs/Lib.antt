pub mod Handles
pub mod ClientHandles
pub mod ClientCodes
pub mod ClientCalls
pub mod ServerHandles
pub mod ServerCodes
pub mod ServerCalls
