pub mod BodyLemmas
pub mod OctetLemmas
pub mod PackedLemmas
pub mod ShiftLemmas
pub mod lemmas
