-- The lemmas of this crate that others may use: the proofs of command_line do. All others in proofs/ are its own.
pub use Rattle.world_script.proofs.WorldOnce.{world_asked_once}
