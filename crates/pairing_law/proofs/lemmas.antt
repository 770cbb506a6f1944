-- The lemmas of this crate that others may use: the proofs of host_keeps_pairing, world_keeps_connections, world_keeps_pairing and world_keeps_streams do. All others in proofs/ are its own.
pub use Rattle.pairing_law.proofs.Balance.{Balanced, count}
pub use Rattle.pairing_law.proofs.Begins.{Fresh, begins_fresh}
pub use Rattle.pairing_law.proofs.Joint.{Half, Joined, turned}
pub use Rattle.pairing_law.proofs.Linked.{among_asks, joined_at, run_at, same_is, same_self, unused}
pub use Rattle.pairing_law.proofs.Lives.{Stands, Stood, every_in}
pub use Rattle.pairing_law.proofs.Open.{open_match}
pub use Rattle.pairing_law.proofs.Placed.{pair_same, placed_front, placed_run, ready_same, stays_same}
pub use Rattle.pairing_law.proofs.Resets.{takes_in_stay, waits_in_stay}
pub use Rattle.pairing_law.proofs.Runs.{joined_fits, joined_run, safe_run}
pub use Rattle.pairing_law.proofs.Seen
pub use Rattle.pairing_law.proofs.Seen.{BothSeen, at, at_join, put, seen}
pub use Rattle.pairing_law.proofs.Words.{asks_once, asks_said, below_asks, closes_more, closes_said, from_asks}
