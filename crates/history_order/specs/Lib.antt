pub mod Waits
pub mod Exchange
