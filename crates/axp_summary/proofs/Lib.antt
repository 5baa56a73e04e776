pub mod RoundLemmas
pub mod LabelLemmas
pub mod SummaryLemmas
