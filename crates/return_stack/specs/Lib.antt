pub mod Shadow
pub mod Frames
pub mod ShadowInvariant
pub mod Calls
pub mod Addresses
pub mod CallStackInvariant
pub mod Moves
