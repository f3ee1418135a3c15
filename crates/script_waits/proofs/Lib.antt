pub mod Runs
pub mod Least
pub mod Unique
pub mod Stuck
pub mod Found
