pub mod BitLemmas
pub mod FillLemmas
pub mod MarksLemmas
pub mod MemberLemmas
pub mod MergeLemmas
pub mod NextOfTwoLemmas
pub mod PackedLemmas
pub mod WordLemmas
