pub mod DropLemmas
pub mod SearchLemmas
