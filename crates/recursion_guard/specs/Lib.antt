pub mod ContextMarks
pub mod Guards
