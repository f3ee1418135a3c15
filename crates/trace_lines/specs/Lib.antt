pub mod LogItems
pub mod CallTexts
