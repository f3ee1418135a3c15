pub mod HolderLemmas
pub mod LowestLemmas
