pub mod Accesses
pub mod Scans
pub mod Demands
pub mod WriteBarriers
