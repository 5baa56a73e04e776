pub mod Runs
pub mod OrderLaws
pub mod StorageLaws
pub mod Counts
pub mod LateLaws
pub mod LockLaws
pub mod EntryLaws
pub mod PollLaws
