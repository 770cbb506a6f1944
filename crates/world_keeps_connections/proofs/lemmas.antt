-- The lemmas of this crate that others may use: the proofs of headline and mixed_worlds do. All others in proofs/ are its own.
pub use Rattle.world_keeps_connections.proofs.Matches.{live_match}
pub use Rattle.world_keeps_connections.proofs.Paired.{joins, world_joined}
