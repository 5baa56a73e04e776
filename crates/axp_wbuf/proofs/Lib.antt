pub mod Fronts
pub mod Orders
pub mod Overlays
pub mod Pairs
pub mod Places
pub mod RunLemmas
pub mod Stores
