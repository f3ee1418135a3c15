pub mod Bound
pub mod Grammar
