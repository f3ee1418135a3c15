pub mod Rows
pub mod TableFields
pub mod Modules
