pub mod Plain
pub mod Bound
