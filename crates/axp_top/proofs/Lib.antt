pub mod CheckLemmas
-- what is printed: piece after piece, and line by line through an event list
pub mod PrintingLemmas
pub mod ReplayLemmas
-- what an answer is, and that its run keeps the constraints
pub mod LawfulAnswerLemmas
-- how the work ends, and what each status says
pub mod EndingLemmas
pub mod StatusLemmas
pub mod WholeAnswerLemmas
pub mod ServingLemmas
pub mod SeededLemmas
pub mod RangeLemmas
pub mod SummaryLemmas
pub mod ExecutableLemmas
