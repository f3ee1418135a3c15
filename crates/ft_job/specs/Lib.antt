pub mod Plans
pub mod Parts
