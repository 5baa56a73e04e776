pub mod ByteComparisons
pub mod Flags
pub mod LogicLemmas
pub mod LongwordLemmas
pub mod MoveLemmas
pub mod OverflowLemmas
pub mod QuadwordLemmas
