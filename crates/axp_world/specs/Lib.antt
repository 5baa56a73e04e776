pub mod Worlds
pub mod Deeds
pub mod Lengths
pub mod RunLaws
pub mod Reasons
