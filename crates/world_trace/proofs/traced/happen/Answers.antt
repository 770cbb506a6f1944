use Rattle.world_trace.proofs.Common.{List, subst, shown, Calls, WorldEvent}
use Rattle.world_replay.specs.Replay.{MayDo, StopsIn, EndsIn}
use Rattle.world_replay.specs.Output.{Shown}
use Rattle.world_trace.proofs.Telling.{ended}
use Rattle.world_trace.proofs.traced.happen.Goals as goal

pub returns-in-Err-clause-memory : goal.returns-in-Err-clause-memory
returns-in-Err-clause-memory g c =
    let calls : Calls g.row.C.Denot = shown g.C.Carrier.calls in
    let old = c.args.world.now in
    let new = c.replay_events.new.world in
    ended calls old new c.args.event c.in-Err.field-0 c.strangers.ensures.none
    (λ e. (
    let w = c.in-Err.ensures.memory e in
    subst (λ (es : List WorldEvent). (lines : List Shown) × EndsIn calls (StopsIn calls) old es new lines) c.in_ok-events.ensures.items (w.shown, w.is_shown)))
    (λ e. subst (λ (es : List WorldEvent). (lines : List Shown) × EndsIn calls (MayDo calls) old es new lines) c.in_ok-events.ensures.items (c.in-Err.ensures.cannot_write e))
