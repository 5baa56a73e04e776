pub mod PlaceLemmas
pub mod FieldLemmas
pub mod RefusalLemmas
-- a refusal has a reason
pub mod LawLemmas
