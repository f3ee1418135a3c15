pub mod LowestLemmas
pub mod ConflictLemmas
pub mod DeskLemmas
