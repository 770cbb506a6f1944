-- The lemmas of this crate that others may use: the proofs of host_keeps_streams, pair_keeps_streams and world_keeps_streams do. All others in proofs/ are its own.
pub use Rattle.stream_law.proofs.Amounts.{at, for_here, some_is}
pub use Rattle.stream_law.proofs.Came.{came_inv}
pub use Rattle.stream_law.proofs.Exact.{Claims, Exact, IsKept, agreed_of, claims_asked, claims_ungranted, exact_kept, exact_opening}
pub use Rattle.stream_law.proofs.Keeps.{Down, Inv, acceptable, link_free, waiting_of, waits_of}
pub use Rattle.stream_law.proofs.Runs.{inv_opening, kept, safe_inv}
pub use Rattle.stream_law.proofs.Words.{unless_some}
