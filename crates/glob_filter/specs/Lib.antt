pub mod Places
pub mod Causes
pub mod Matching
pub mod Grammar
pub mod Items
pub mod TokenItems
