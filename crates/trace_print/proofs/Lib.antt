pub mod TaskLookups
pub mod SummaryLines
pub mod FirstText
pub mod KeptLaws
pub mod TaskCalls
