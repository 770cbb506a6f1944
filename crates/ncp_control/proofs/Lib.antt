pub mod Counters
pub mod Fronts
pub mod Readings
pub mod Headers
pub mod Details
pub mod PackedLemmas
pub mod lemmas
