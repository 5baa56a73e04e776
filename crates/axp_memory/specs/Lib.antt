pub mod Bytes
pub mod RamParts
