pub mod Headers
pub mod Faults
pub mod Executables
pub mod Laws
