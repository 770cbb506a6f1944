pub mod Common
mod Faults
mod Joined
mod Joins
mod Lived
mod Logs
mod Once
mod OneInput
mod Printed
mod Reading
mod Replayed
mod Sites
mod WorkedLines
mod Flags
mod Verdicts
pub mod lemmas
