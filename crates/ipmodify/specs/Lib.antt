pub mod Conflicts
pub mod Pairs
pub mod OnDesk
