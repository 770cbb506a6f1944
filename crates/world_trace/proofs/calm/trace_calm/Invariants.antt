use Rattle.world_trace.proofs.Common.{◌≡◌, ◌≤◌, false, true, shown, Calls, AreTextsOf, RoundsPass}
use Rattle.world_trace.specs.Seen.{RoundTells}
use Rattle.world_trace.proofs.Rounds.Calms.{Passed}
use Rattle.world_trace.proofs.calm.trace_calm.Given as goal

-- this many rounds have passed, and their lines are written, and handed on from the 65th on; the texts are those of the state; no write has failed
abbrev pub invariant-loop-passed : goal.invariant-loop-passed
invariant-loop-passed g l =
    let calls : Calls g.row.C.Denot = shown g.C.Carrier.calls in
    Passed calls g.C.Inspect.inside.members l.spot l.passed (g.T.Traced.state l.fn.world) (g.T.Traced.state l.world)
    (g.W.Output.contents l.fn.writer) (g.W.Output.contents l.writer) × (g.W.Output.failed l.writer ≡ false)
    × (l.passed ≤ l.rounds) × AreTextsOf g.C.Inspect.inside.members (g.T.Traced.state l.world) l.texts
    × (g.T.Traced.strangers l.world ≡ g.T.Traced.strangers l.fn.world)
    × RoundsPass (RoundTells calls g.C.Inspect.inside.members g.W.Output.contents l.spot)
    (λ at. g.W.Output.flushed at.1 ≡ true) l.passed (g.T.Traced.state l.fn.world, l.fn.writer)
    (g.T.Traced.state l.world, l.writer)
