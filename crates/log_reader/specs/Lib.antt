pub mod FirstLine
pub mod Refused
pub mod Lookups
pub mod Found
pub mod Reading
pub mod Lanes
