use Rattle.replay.proofs.Common.{Calls}
use Rattle.replay.proofs.Passing.{Took}
use Rattle.replay.proofs.calm.take_all.Given as goal

-- each taking so far gave something
abbrev pub invariant-loop : goal.invariant-loop
invariant-loop g l =
    let calls : Calls g.row.C.Denot = g.C.Carrier.calls in
    Took calls l.host l.fn.carrier l.counter l.carrier
