pub mod Views
pub mod Covers
