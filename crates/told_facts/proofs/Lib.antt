pub mod Texts
pub mod Controls
