use Rattle.trace.proofs.Common.{◌≡◌, ◌+◌, IfSome, drop, false, length, Calls, Inside, TellsEvent, numbered_from}
use Rattle.trace.proofs.Rounds.Handing.{SeenSoFar}
use Rattle.trace.proofs.Telling.{SoFar}
use Rattle.trace.proofs.events.trace_all.Given as goal

-- the events so far happened, and their lines are written, of long calms handed on round by round; no write has failed; the texts are those of all parts, if they are known
abbrev pub invariant-loop-place : goal.invariant-loop-place
invariant-loop-place g l =
    let calls : Calls g.row.C.Denot = g.C.Carrier.calls in
    let inside : Inside g.row.C.Denot = g.C.Inspect.inside in
    (l.place-end ≡ length l.events)
    × SoFar (TellsEvent calls inside) l.fn.carrier (numbered_from 1 l.events) (numbered_from (l.place + 1) (drop l.place l.events)) l.carrier (g.W.Output.contents l.fn.writer) (g.W.Output.contents l.writer)
    × (g.W.Output.failed l.writer ≡ false) × IfSome l.known (λ t. t.parts ≡ inside.members l.carrier)
    × SeenSoFar calls inside g.W.Output.contents g.W.Output.flushed (l.fn.carrier, l.fn.writer) (numbered_from 1 l.events) (numbered_from (l.place + 1) (drop l.place l.events)) (l.carrier, l.writer)
