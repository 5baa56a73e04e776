-- what is asked, and what an answer that fits it says
pub mod AskRangeLemmas
pub mod ReplyFitLemmas
pub mod CpuNumberLemmas
-- the entries of the write buffer
pub mod EntryLemmas
pub mod EntryCountLemmas
-- the lines of memory that are kept
pub mod LineLemmas
pub mod HeldLineLemmas
pub mod KeptRangeLemmas
pub mod OfferLemmas
