pub mod Names
pub mod Items
pub mod Texts
pub mod Fields
pub mod Reading
