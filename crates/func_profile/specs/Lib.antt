pub mod Rows
pub mod Tallies
