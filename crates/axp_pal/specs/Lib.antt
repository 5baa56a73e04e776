pub mod Contexts
pub mod Returns
pub mod Invalidations
pub mod Calls
