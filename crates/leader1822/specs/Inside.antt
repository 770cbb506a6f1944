-- What a value of this crate keeps true of itself. No public clause cites it, so a caller need not read it.
pub mod Codes
pub mod Held
pub mod Named
pub mod Quiet
pub mod Shown
pub mod Soundness
