-- The laws and rows of src/ that are longer than a line: each is a record, and its fields are the clauses.
pub mod Worlds
pub mod Rows
