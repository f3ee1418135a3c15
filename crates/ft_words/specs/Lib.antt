pub mod Language
pub mod Command
