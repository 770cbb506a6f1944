-- The lemmas of this crate that others may use: the proofs of command_line, session and world_trace do. All others in proofs/ are its own.
pub use Rattle.world_replay.proofs.Accounts
pub use Rattle.world_replay.proofs.CalmRounds
pub use Rattle.world_replay.proofs.Driven
pub use Rattle.world_replay.proofs.Gained
pub use Rattle.world_replay.proofs.Grown.{at_seat, if_stopped, one_crossed}
pub use Rattle.world_replay.proofs.News
pub use Rattle.world_replay.proofs.Once
pub use Rattle.world_replay.proofs.Replays
pub use Rattle.world_replay.proofs.Rounds.{when_false, when_true}
pub use Rattle.world_replay.proofs.Staying.{part_same, replay_same, script_same}
pub use Rattle.world_replay.proofs.Steady.{on_either}
pub use Rattle.world_replay.proofs.Turns.{again_front, again_once, round_calm}
