pub mod Streams
pub mod Sessions
pub mod Frames
pub mod Clients
pub mod Conversations
pub mod Turns
pub mod ServingPairs
pub mod ConversingPairs
