pub mod Pairs
pub mod Oldest
