pub mod ImageLemmas
pub mod ValidityLemmas
