-- The lemmas of this crate that others may use: the proofs of command_line do. All others in proofs/ are its own.
pub use Rattle.headline.proofs.Audited.{kept_promise}
pub use Rattle.headline.proofs.Promise.{world_keeps}
