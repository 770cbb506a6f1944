use Rattle.replay.proofs.Common.{◌≡◌, false, Calls}
use Rattle.replay.proofs.Passing.{Passed}
use Rattle.replay.proofs.calm.replay_calm.Given as goal

-- this many rounds have passed, and no write has failed
abbrev pub invariant-loop : goal.invariant-loop
invariant-loop g l =
    let calls : Calls g.row.C.Denot = g.C.Carrier.calls in
    Passed calls l.detail l.fn.carrier l.rounds l.counter l.carrier (g.W.Output.contents l.fn.writer) (g.W.Output.contents l.writer) × (g.W.Output.failed l.writer ≡ false)
