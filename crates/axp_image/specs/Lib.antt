pub mod Contents
pub mod Grammar
pub mod Faults
pub mod Seen
pub mod Laws
pub mod Spelling
