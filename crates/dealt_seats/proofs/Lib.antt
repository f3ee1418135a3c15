pub mod Actors
pub mod Parts
pub mod Moves
