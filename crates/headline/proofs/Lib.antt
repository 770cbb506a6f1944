mod Promise
mod Audited
pub mod lemmas
