pub mod VectorLemmas
pub mod Tables
pub mod Joining
pub mod Walking
pub mod Nexts
pub mod RoundsLemmas
pub mod lemmas
