use Rattle.world_trace.proofs.Common.{◌≡◌, ◌≤◌, false, shown, Calls}
use Rattle.world_trace.specs.Steps.{AreTextsOf, event_of}
use Rattle.world_trace.proofs.Rounds.Calms.{HaveSteps}
use Rattle.world_trace.proofs.calm.trace_again.Given as goal

-- something has crossed each time, and the lines are written; no write has failed; the texts are those of the state
abbrev pub invariant-loop : goal.invariant-loop
invariant-loop g l =
    let calls : Calls g.row.C.Denot = shown g.C.Carrier.calls in
    HaveSteps calls g.C.Inspect.inside.members l.spot l.round (event_of l.event) l.counter (g.T.Traced.state l.fn.world)
    (g.T.Traced.state l.world) (g.W.Output.contents l.fn.writer) (g.W.Output.contents l.writer)
    × (g.W.Output.failed l.writer ≡ false)
    × (l.counter ≤ l.times)
    × AreTextsOf g.C.Inspect.inside.members (g.T.Traced.state l.world) l.texts
    × (g.T.Traced.strangers l.world ≡ g.T.Traced.strangers l.fn.world)
