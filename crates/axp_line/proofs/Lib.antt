pub mod MergeLemmas
pub mod QuadwordLemmas
