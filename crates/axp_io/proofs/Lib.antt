pub mod BufferLemmas
pub mod Fronts
pub mod ListsLemmas
pub mod ReadLemmas
pub mod TablesLemmas
pub mod WriteLemmas
