pub mod Names
pub mod Lines
pub mod Reached
pub mod Made
pub mod ModulesInvariant
