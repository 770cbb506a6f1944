pub mod Common
pub mod Books
pub mod Resets
pub mod Hosts
pub mod Audits
pub mod AllOurs
pub mod lemmas
