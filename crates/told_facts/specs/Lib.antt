pub mod Values
pub mod Lines
pub mod Commands
pub mod Facts
