-- The requests of lives: what they name, and which lives have them.
pub mod Named
pub mod Placed
pub mod Asked
pub mod Known
pub mod Walks
