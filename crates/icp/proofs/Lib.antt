pub mod SocketLemmas
pub mod ServerLemmas
pub mod UserLemmas
pub mod Playing
pub mod lemmas
