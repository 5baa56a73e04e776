pub mod Shapes
pub mod Assembly
pub mod Programs
pub mod Litmus
