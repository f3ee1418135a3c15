pub mod Entries
pub mod Races
pub mod Steps
pub mod Searches
