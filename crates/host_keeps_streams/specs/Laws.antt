-- The laws of src/ that are longer than a line: each is a record, and its fields are the clauses.
pub mod Ends
pub mod Calls
pub mod Histories
pub mod Worked
