pub mod Views
pub mod Waits
pub mod WaitInvariant
pub mod Pasts
