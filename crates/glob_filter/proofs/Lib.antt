pub mod Fitting
pub mod GrammarLemmas
pub mod Ranges
pub mod Texts
pub mod PlaceLemmas
pub mod WordLemmas
