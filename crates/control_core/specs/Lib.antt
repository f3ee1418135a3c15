pub mod Followed
pub mod Positions
pub mod Plans
pub mod Lines
pub mod Phases
pub mod Seated
pub mod Steps
pub mod ControlInvariant
