pub mod ChoiceLemmas
pub mod WordLemmas
pub mod NamingLemmas
