use Rattle.std.proofs.Common.{◌≡◌, ◌++◌, false}
use Rattle.world_replay.specs.Output.{Writes}
use Rattle.world_replay.specs.Kinds.{ReplaysBy}
use Rattle.world_replay.specs.Seen.{AreSeenBy}
use Rattle.world_replay.proofs.events.replay_in_turn.Given as goal

-- the events so far are replayed, what they showed is written, and of long calms handed on round by round; no write has failed
abbrev pub invariant-loop-event : goal.invariant-loop-event
invariant-loop-event g l =
    (l.fn.events.items ≡ l.yielded ++ l.event-iterator.rest.items) × Writes l.detail (ReplaysBy g.R.Replayed.kind l.fn.world l.yielded l.world) (g.W.Output.contents l.fn.writer) (g.W.Output.contents l.writer)
    × (g.W.Output.failed l.writer ≡ false) × AreSeenBy g.R.Replayed.kind l.detail g.W.Output.contents g.W.Output.flushed (l.fn.world, l.fn.writer) l.yielded (l.world, l.writer)
