pub mod TurnLemmas
pub mod HearingLemmas
pub mod ScopeLemmas
pub mod BlockLemmas
pub mod Asking
pub mod lemmas
