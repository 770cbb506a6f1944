pub mod Common
mod Counting
pub mod Handing
pub mod InTurn
pub mod Lines
pub mod Passing
pub mod Replays
pub mod Settled
pub mod Shown
mod Spelled
pub mod lemmas
