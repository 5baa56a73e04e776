-- what is written: digits, the parts of an event, lines
pub mod DigitLemmas
pub mod SpellingLemmas
pub mod LineLemmas
-- what is read, from below: the lines of a file, words, fields, events
pub mod FileLemmas
pub mod ReadingLemmas
pub mod ActNameLemmas
pub mod MemoryLineLemmas
pub mod WordLemmas
pub mod ReadBackLemmas
-- first lines
pub mod HeaderLemmas
-- records: cut at the colon, printed and read, read and printed, both
pub mod ColonLemmas
pub mod RecordLemmas
pub mod MeantLemmas
pub mod RecordLawLemmas
-- the tail: the console's line, the others, all
pub mod ConsoleLemmas
pub mod TailLemmas
pub mod TailLawLemmas
-- any line
pub mod TraceLineLemmas
