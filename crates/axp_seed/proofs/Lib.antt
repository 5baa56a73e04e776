pub mod TurnLemmas
pub mod AbleLemmas
pub mod NextLemmas
pub mod CompletionLemmas
pub mod WalkLemmas
pub mod LegalLemmas
