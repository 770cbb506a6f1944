use Rattle.trace.proofs.Common.{◌≡◌, IfSome, false, is_some, length, true, Calls, Inside}
use Rattle.trace.proofs.Rounds.Told.{InRound}
use Rattle.trace.proofs.events.trace_round.Given as goal

-- the elementary events of the round so far happened, and their lines are written; what is left is what the carrier
-- says; no write has
-- failed; the texts are those of all parts, and known
abbrev pub invariant-elements : goal.invariant-elements
invariant-elements g l =
    let calls : Calls g.row.C.Denot = g.C.Carrier.calls in
    let inside : Inside g.row.C.Denot = g.C.Inspect.inside in
    InRound calls inside g.C.Inspect.left l.spot l.round l.fn.carrier l.initial.place l.carrier l.place
    (g.W.Output.contents l.fn.writer) (g.W.Output.contents l.writer)
    × (g.W.Output.failed l.writer ≡ false) × IfSome l.known (λ t. t.parts ≡ inside.members l.carrier)
    × (is_some l.known ≡ true)

-- each has one more after it
abbrev pub decreases-elements : goal.decreases-elements
decreases-elements g l = length (g.C.Inspect.left l.carrier l.place)
