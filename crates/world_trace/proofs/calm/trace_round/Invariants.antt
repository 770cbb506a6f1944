use Rattle.world_trace.proofs.Common.{◌≡◌, false, map, shown, Calls, AreTextsOf, turn}
use Rattle.world_trace.proofs.Rounds.Calms.{InRound}
use Rattle.world_trace.proofs.calm.trace_round.Given as goal

-- the events of the round so far happened, and their lines are written; no write has failed; the texts are those of the state
abbrev pub invariant-loop-event : goal.invariant-loop-event
invariant-loop-event g l =
    let calls : Calls g.row.C.Denot = shown g.C.Carrier.calls in
    InRound calls g.C.Inspect.inside.members l.spot l.round (g.T.Traced.state l.fn.world)
    (map turn l.event-iterator.rest.items) (g.T.Traced.state l.world) (g.W.Output.contents l.fn.writer)
    (g.W.Output.contents l.writer)
    × (g.W.Output.failed l.writer ≡ false)
    × AreTextsOf g.C.Inspect.inside.members (g.T.Traced.state l.world) l.texts
    × (g.T.Traced.strangers l.world ≡ g.T.Traced.strangers l.fn.world)
