pub mod Journals
pub mod LockInvariant
