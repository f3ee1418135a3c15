pub mod Plan
pub mod Hits
pub mod Fold
pub mod Legal
pub mod RingInvariant
pub mod Gathered
