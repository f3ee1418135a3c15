pub mod Fields
pub mod Open
pub mod ItemText
