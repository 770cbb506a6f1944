-- The rounds of a calm: the events of one (Turns), that it passes as in a replay (Passing), their lines (Calms), when they are handed on (Handing), and the last (Resting).
pub mod Calms
pub mod Handing
pub mod Passing
pub mod Resting
pub mod Turns
