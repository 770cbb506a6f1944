use Rattle.replay.proofs.Common.{Calls}
use Rattle.replay.proofs.Passing.{Turned}
use Rattle.replay.proofs.calm.pass_round.Given as goal

-- the hosts before this one have taken
abbrev pub invariant-loop-index : goal.invariant-loop-index
invariant-loop-index g l =
    let calls : Calls g.row.C.Denot = g.C.Carrier.calls in
    Turned calls l.fn.carrier l.index l.carrier
