pub mod MovesLeft
pub mod Bridge
pub mod Samples
