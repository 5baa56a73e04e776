pub mod PairLemmas
pub mod OrderLemmas
