pub mod Status
pub mod Entries
pub mod Frames
pub mod Entering
pub mod Keeping
