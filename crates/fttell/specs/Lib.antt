pub mod Telling
pub mod ToldText
