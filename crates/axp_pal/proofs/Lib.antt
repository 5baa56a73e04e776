pub mod AnswerLemmas
pub mod RoundTrip
