-- what a file says is valid, and is read part by part
pub mod ValidityLemmas
pub mod RecordLemmas
pub mod ReadingLoopLemmas
-- which fault of a file is the first
pub mod FaultLemmas
pub mod NoFaultLemmas
pub mod CutFileLemmas
-- a valid image has one file, and is read back from it
pub mod SpellingLemmas
pub mod ReadBackLemmas
-- an image is made and written part by part
pub mod WritingLemmas
-- where the segments and their bytes stand in memory
pub mod SegmentPlaceLemmas
pub mod BytePlaceLemmas
