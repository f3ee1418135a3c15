pub mod TextLemmas
pub mod SetLemmas
pub mod GrammarLemmas
pub mod TriggerLemmas
