pub mod CpuLemmas
pub mod LineLemmas
pub mod MaskLemmas
pub mod NumberLemmas
pub mod PartLemmas
pub mod SpanLemmas
pub mod SignLemmas
pub mod LatePairLemmas
