pub mod Entries
pub mod Traces
pub mod Shown
pub mod Tables
pub mod Surveys
