pub mod Common
mod InCalm
mod Jobs
mod Names
mod OneProgram
mod Recorded
mod Traces
mod WorkedPrograms
mod WorkedSessions
