pub mod Rows
pub mod Users
