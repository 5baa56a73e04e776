pub mod Drains
pub mod Pending
pub mod Runs
pub mod Views
