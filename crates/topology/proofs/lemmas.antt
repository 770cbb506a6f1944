-- The lemmas of this crate that others may use: the proofs of command_line do. All others in proofs/ are its own.
pub use Rattle.topology.proofs.Described.{described_keeps}
pub use Rattle.topology.proofs.Sites.{hosts_listed}
