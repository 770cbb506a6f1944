pub mod OctetLemmas
pub mod LineLemmas
pub mod PlayedLemmas
