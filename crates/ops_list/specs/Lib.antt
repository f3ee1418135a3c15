pub mod Names
pub mod Links
pub mod Walks
pub mod LinkUsers
pub mod Lists
