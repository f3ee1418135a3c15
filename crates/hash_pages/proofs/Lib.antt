pub mod PageLaws
pub mod WrittenLaws
pub mod FoundLaws
