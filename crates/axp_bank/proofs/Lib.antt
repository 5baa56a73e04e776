pub mod BankLemmas
pub mod HeldCopyLemmas
pub mod ListEqualityLemmas
