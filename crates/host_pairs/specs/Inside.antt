-- What a value of this crate keeps true of itself. No public clause cites it, so a caller need not read it.
pub mod Clauses
pub mod Held
pub mod Index
pub mod Listening
