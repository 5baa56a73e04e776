-- a header without a fault has room in memory
pub mod PlacingLemmas
-- headers are tested and loaded one after the other
pub mod LoadingLemmas
-- what an executable is read as
pub mod ExecutableLemmas
-- which byte of it stands where in memory
pub mod MemoryLemmas
-- where its headers lie in memory
pub mod OrderLemmas
