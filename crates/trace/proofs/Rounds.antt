-- The rounds of calms.
pub mod Handing
pub mod Listed
pub mod Numbered
pub mod Once
pub mod Plain
pub mod Same
pub mod Settled
pub mod Told
pub mod Turns
pub mod Two
pub mod Whole
