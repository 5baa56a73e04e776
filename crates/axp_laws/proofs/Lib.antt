-- what is kept along a run: what a legal record shows, and what is known of each access for good
pub mod RunFacts
pub mod RunRecords
pub mod RunKnown
pub mod RunSteps
-- BEFORE, the issue constraint, the write barrier and location
pub mod OrderKeys
pub mod OrderCounts
pub mod OrderCases
pub mod OrderDrains
pub mod OrderPlaces
-- the sources of bytes, and what held copies have of memory
pub mod SourceBytes
pub mod SourceValues
pub mod SourceStays
pub mod SourceEarlier
pub mod SourceForwarded
pub mod SourceTurns
pub mod SourceClosedForm
pub mod SourceRuns
pub mod SourceCopies
pub mod SourceWritten
-- invalidations that come late
pub mod LateReached
pub mod LateCounts
pub mod LateTurns
pub mod LateOthers
-- the lists of held lines
pub mod CopyNumbers
pub mod CopyLists
-- locks
pub mod LockRegisters
pub mod LockPairs
pub mod LockGuards
-- write-buffer entries, the numbers of accesses, drains
pub mod EntryNumbers
pub mod EntryGroups
pub mod EntryDrains
pub mod EntryStates
-- interrupts
pub mod PollSignals
pub mod InterruptTimes
-- causes
pub mod CauseMoments
