mod Next
pub mod Alike
mod Samples
