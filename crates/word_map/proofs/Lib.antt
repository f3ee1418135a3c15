pub mod PlaceLaws
pub mod OpeningLaws
pub mod ContentLaws
