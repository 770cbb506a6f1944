-- What is said of a log: the lives among hosts with programs (Among), that it is what the audit says (Judged), that
-- what is named is broken (Named), the last word (LastWord), and that the log of a replay with strangers is kept
-- (MixedKept).
pub mod Among
pub mod Judged
pub mod LastWord
pub mod MixedKept
pub mod Named
pub mod Parts
