pub mod FieldTexts
pub mod Places
pub mod Tellings
