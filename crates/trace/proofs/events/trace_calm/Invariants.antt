use Rattle.trace.proofs.Common.{◌≡◌, IfSome, false, length, Calls, by_round, Inside}
use Rattle.trace.proofs.Rounds.Handing.{Passing}
use Rattle.trace.proofs.events.trace_calm.Given as goal

-- the rounds so far passed, none of them was still, and each after the 64th was seen; what is left is what the carrier
-- says; no write has failed; the texts are those of all parts, if they are known
abbrev pub invariant-rounds : goal.invariant-rounds
invariant-rounds g l =
    let calls : Calls g.row.C.Denot = g.C.Carrier.calls in
    let inside : Inside g.row.C.Denot = g.C.Inspect.inside in
    Passing calls inside l.spot g.W.Output.contents g.W.Output.flushed (by_round (inside.calm l.fn.carrier l.rounds))
    (by_round (g.C.Inspect.left l.carrier l.place)) l.passed (l.fn.carrier, l.fn.writer) (l.carrier, l.writer)
    × (g.W.Output.failed l.writer ≡ false) × IfSome l.known (λ t. t.parts ≡ inside.members l.carrier)

-- each has one more after it
abbrev pub decreases-rounds : goal.decreases-rounds
decreases-rounds g l = length (by_round (g.C.Inspect.left l.carrier l.place))
