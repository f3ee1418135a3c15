pub mod Exact
pub mod States
