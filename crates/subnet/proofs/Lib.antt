pub mod Common
pub mod Moves
pub mod Packets
pub mod Calls
pub mod lemmas
