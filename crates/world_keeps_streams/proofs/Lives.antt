-- The lives of a host with a peer as a safe book asks for them, whether the host stays or leaves. Main lemmas: Present `lives` (two hosts that stay),
-- Leaves `leaves` (a host that leaves), Leaves `none_begins` (none begins then), Left `entry_end` (a host that has left), Lists `grown` (how lists of
-- lives grow by a moment).
pub mod Among
pub mod Away
pub mod Fates
pub mod Leaves
pub mod LeavesEnds
pub mod LeavesLists
pub mod LeavesTold
pub mod Left
pub mod Lists
pub mod Opened
pub mod Present
pub mod Since
pub mod Unended
