pub mod Places
pub mod TallyLemmas
pub mod NoteLemmas
pub mod LegalLemmas
pub mod TotalLemmas
pub mod WrittenOut
