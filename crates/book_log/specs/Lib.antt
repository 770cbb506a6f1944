pub mod Log
pub mod Steps
