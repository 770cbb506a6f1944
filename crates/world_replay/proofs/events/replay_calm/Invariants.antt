use Rattle.world_replay.proofs.Common.{◌≡◌, ◌≤◌, false, true, RoundPrints}
use Rattle.world_replay.proofs.ByKind.{HaveRounds}
use Rattle.replay.specs.Seen.{RoundsPass}
use Rattle.world_replay.proofs.events.replay_calm.Given as goal

-- this many rounds have passed, what they showed is written, and each after the 64th was seen; no write has failed
abbrev pub invariant-loop-passed : goal.invariant-loop-passed
invariant-loop-passed g l =
    HaveRounds g.R.Replayed.kind l.detail l.passed l.fn.world l.world (g.W.Output.contents l.fn.writer) (g.W.Output.contents l.writer) × (g.W.Output.failed l.writer ≡ false) × (l.passed ≤ l.rounds)
    × RoundsPass (RoundPrints g.R.Replayed.kind l.detail g.W.Output.contents) (λ at. g.W.Output.flushed at.1 ≡ true) l.passed (l.fn.world, l.fn.writer) (l.world, l.writer)
