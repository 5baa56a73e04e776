pub mod BitLemmas
pub mod ExtensionLemmas
