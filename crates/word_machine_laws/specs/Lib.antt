pub mod Orders
pub mod Led
