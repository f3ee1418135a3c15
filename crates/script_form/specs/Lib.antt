pub mod Forms
pub mod Users
pub mod Lines
pub mod Names
pub mod Grammar
pub mod Read
