pub mod Longwords
pub mod Moves
pub mod Results
pub mod Rows
