-- What a value of this crate keeps true of itself. No public clause cites it, so a caller need not read it.
pub mod Counts
pub mod Lives
pub mod Open
pub mod Places
pub mod Endings
pub mod Seats
pub mod Parts
pub mod Growing
pub mod Held
pub mod Notes
pub mod Calm
pub mod Undo
pub mod Audit
