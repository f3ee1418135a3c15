pub mod Reply
pub mod Main
pub mod Ends
