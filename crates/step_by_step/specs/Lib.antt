pub mod TheJob
pub mod TheParts
pub mod Silence
