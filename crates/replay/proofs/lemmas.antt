-- The lemmas of this crate that others may use: the proofs of command_line, session, trace, world_replay and world_trace do. All others in proofs/ are its own.
pub use Rattle.replay.proofs.Handing.{Each, ends_last, kept_written, one_round_seen, seen_written}
pub use Rattle.replay.proofs.InTurn.{ends_front, in_turn_once, last_shown, last_written, one_written, text_more, text_of-append}
pub use Rattle.replay.proofs.Passing.{grown_more}
pub use Rattle.replay.proofs.Replays.{replays_show, stops_show}
pub use Rattle.replay.proofs.Settled
pub use Rattle.replay.proofs.Settled.{OneReplay, StartsWith, replays_once}
pub use Rattle.replay.proofs.Shown.{crossings_shown, gained, grew_offer, grew_take, happens_shows, on_ok, output-append, refused_offer, refused_take}
pub use Rattle.std.proofs.KnownBytes.{Appends-trans as appends_more, Appends-nil as appends_none}
