-- the numbers of words, names, fields
pub mod NumberLemmas
pub mod NameLemmas
pub mod FieldLemmas
-- what is written is read, what is read is written, both
pub mod BackLemmas
pub mod MeantLemmas
pub mod StatementLemmas
-- no line has a line feed
pub mod WholeLemmas
-- lines worked out
pub mod Examples
