pub mod Forms
pub mod Causes
pub mod Edits
pub mod Meanings
pub mod Grammar
pub mod Triggers
