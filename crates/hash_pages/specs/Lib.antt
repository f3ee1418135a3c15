pub mod Pages
pub mod Reads
pub mod PageInvariant
pub mod ReadInvariant
pub mod Found
pub mod Written
