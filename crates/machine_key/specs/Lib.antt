pub mod Codings
pub mod Moments
pub mod Cases
pub mod Codes
pub mod States
pub mod Race
