pub mod Common
pub mod Accounts
mod AtHosts
pub mod CalmRounds
mod CalmEvents
mod Counting
pub mod Driven
mod Driving
pub mod Gained
pub mod Gaining
pub mod Grown
pub mod ByKind
pub mod Once
pub mod News
pub mod Replayable
pub mod Replays
pub mod Reports
pub mod Rounds
pub mod Staying
pub mod Steady
pub mod Strangers
mod Ticking
pub mod ToldLines
pub mod Turns
pub mod lemmas
