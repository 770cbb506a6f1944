-- The lemmas of this crate that others may use: the proofs of subnet do. All others in proofs/ are its own.
pub use Rattle.flow_law.proofs.FollowLemmas.{all_follow, all_open, makes_one, sound_run, stays}
pub use Rattle.flow_law.proofs.LocalLemmas.{queued_alone, queued_awaited, take_here}
pub use Rattle.flow_law.proofs.StepLemmas.{answer_elsewhere, answer_here, down_shown, in_elsewhere, in_here, one_follows, out_elsewhere, out_here, silent_follows, up_shown}
