-- The lemmas of this crate that others may use: the proofs of command_line and world_trace do. All others in proofs/ are its own.
pub use Rattle.subnet_trace.proofs.Calms.{elementary, once, placed_after, quiet_replays, refused}
pub use Rattle.subnet_trace.proofs.Known.{IsKnown, offer_known, opening_known, round_known, step_known, take_known, told}
pub use Rattle.subnet_trace.proofs.NoChoice.{subnet_settled}
pub use Rattle.subnet_trace.proofs.Reached.{Holds, event_holds, opening_holds}
pub use Rattle.subnet_trace.proofs.Rest.{opening, runs}
pub use Rattle.subnet_trace.proofs.Told.{says}
