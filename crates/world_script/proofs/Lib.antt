mod Lines
mod Requests
pub mod WorldOnce
pub mod lemmas
