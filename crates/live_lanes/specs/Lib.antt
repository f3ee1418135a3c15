pub mod LaneItems
pub mod Led
pub mod Conducted
