pub mod Labels
pub mod Rounds
pub mod Summaries
