pub mod EntryLemmas
pub mod TailLemmas
pub mod SurveyLemmas
pub mod LineLemmas
pub mod CollectLemmas
pub mod ShownLemmas
pub mod LawLemmas
