pub mod Folds
pub mod Plans
