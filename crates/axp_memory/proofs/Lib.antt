pub mod LoadLemmas
pub mod MergingLemmas
pub mod ReadingLemmas
pub mod WriteLemmas
