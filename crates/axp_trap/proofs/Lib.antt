pub mod EntryLemmas
