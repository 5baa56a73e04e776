pub mod States
pub mod Keeps
