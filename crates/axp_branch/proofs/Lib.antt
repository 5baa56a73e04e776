pub mod BranchLemmas
