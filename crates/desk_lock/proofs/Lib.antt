pub mod Keeping
pub mod Totals
