pub mod EditLaws
pub mod MatchLaws
