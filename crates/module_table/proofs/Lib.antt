pub mod LowestLaws
pub mod HiddenLaws
pub mod MaskLaws
pub mod MovedLaws
pub mod CommandLaws
pub mod OpenedLaws
pub mod MadeLaws
pub mod NameLaws
pub mod ListLaws
pub mod BetweenLaws
pub mod ClashLaws
pub mod OpeningLaws
pub mod NumberSamples
mod AnswerSamples
