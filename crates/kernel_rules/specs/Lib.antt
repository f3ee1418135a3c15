pub mod Rules
pub mod Recorded
pub mod Direct
pub mod Parts
