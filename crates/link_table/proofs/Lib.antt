pub mod FlowLemmas
pub mod AnswerLemmas
pub mod KeyLemmas
pub mod EntryLemmas
pub mod WindowLemmas
pub mod NumberLemmas
pub mod lemmas
