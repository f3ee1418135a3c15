pub mod Visits
pub mod Alike
pub mod Admits
pub mod Exchanging
pub mod Moves
pub mod Control
pub mod Waiting
