pub mod Numbers
pub mod RankOrder
pub mod RankLemmas
pub mod Drains
