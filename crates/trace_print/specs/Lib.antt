pub mod SummaryText
pub mod Texts
pub mod Kept
pub mod TaskNames
