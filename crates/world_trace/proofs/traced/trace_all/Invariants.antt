use Rattle.world_trace.proofs.Common.{◌≡◌, ◌+◌, IfSome, false, length, numbered_from, shown, AreTextsOf, AtSpot}
use Rattle.world_trace.proofs.Rounds.Handing.{SeenSoFar}
use Rattle.world_trace.proofs.Telling.{SoFar}
use Rattle.world_trace.proofs.traced.trace_all.Given as goal

-- the events so far happened, and their lines are written, of long calms handed on round by round; no write has failed; texts that are known are those of the state
abbrev pub invariant-loop-line : goal.invariant-loop-line
invariant-loop-line g l =
    let left = l.line-iterator.rest.items in
    (l.passed + length left ≡ length l.fn.events.items)
    × SoFar (AtSpot g.T.Scripted.tells) l.fn.world (numbered_from 1 l.fn.events.items)
    (numbered_from (l.passed + 1) left) l.world
    (g.W.Output.contents l.fn.writer) (g.W.Output.contents l.writer)
    × (g.W.Output.failed l.writer ≡ false)
    × IfSome l.known (AreTextsOf g.C.Inspect.inside.members (g.T.Traced.state l.world))
    × SeenSoFar (shown g.C.Carrier.calls) g.C.Inspect.inside.members g.T.Traced.state
    g.T.Scripted.tells g.W.Output.contents g.W.Output.flushed (l.fn.world, l.fn.writer)
    (numbered_from 1 l.fn.events.items) (numbered_from (l.passed + 1) left) (l.world, l.writer)
