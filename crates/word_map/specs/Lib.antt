pub mod Words
pub mod Chains
pub mod Contents
pub mod Instructions
pub mod Ops
pub mod Shapes
pub mod Places
