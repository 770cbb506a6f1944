-- Hosts that stay with a peer since both were through a reset, hosts that do not, and the moment in which two meet. Main lemmas: Resets
-- `stays_on` (a stay that continues), Owing `told_rfnm` (an answer that a stay survives is an RFNM), Solo
-- `solo_there` by Meets (what a host did by itself), Meets `meets` (where two hosts meet both streams begin).
pub mod Calm
pub mod Meeting
pub mod Meets
pub mod Owing
pub mod Quiet
pub mod Resets
pub mod Solo
