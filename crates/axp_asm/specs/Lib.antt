pub mod Lines
pub mod Labels
pub mod Drafts
pub mod Heads
pub mod Sources
pub mod Seen
pub mod Listings
pub mod Laws
