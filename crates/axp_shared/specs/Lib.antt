pub mod Answers
pub mod Asking
pub mod Buses
pub mod Standing
