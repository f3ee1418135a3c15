pub mod Items
pub mod Grammar
pub mod Causes
pub mod Coming
pub mod Counts
pub mod Bulk
pub mod HoldTurns
