pub mod Steps
pub mod WorldScript
pub mod WorldSpelling
