mod Samples
mod NotLegal
pub mod Numbers
pub mod Totals
pub mod Lists
pub mod OneMore
pub mod OnCpus
pub mod Assembled
pub mod Alone
pub mod FiredPlaces
pub mod HitAll
pub mod FoldLegal
pub mod FoldSteps
pub mod Parts
