pub mod GrammarLemmas
pub mod PlayLemmas
pub mod StepLemmas
pub mod Parts
pub mod BulkLength
