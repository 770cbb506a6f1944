use Rattle.world_trace.proofs.Common.{[], subst, shown, Event, Calls, MayTell}
use Rattle.world_trace.proofs.Telling.{ended_in_calm}
use Rattle.world_trace.proofs.calm.happen_in_calm.Goals as goal

pub returns-in-Err-clause-memory : goal.returns-in-Err-clause-memory
returns-in-Err-clause-memory g c =
    let calls : Calls g.row.C.Denot = shown g.C.Carrier.calls in
    let old = (g.T.Traced.state c.args.world.now) in
    let new = (g.T.Traced.state c.replay_in_calm.new.self) in
    subst (λ (e : Event). MayTell calls old e new []) c.event_of.ensures
    (ended_in_calm calls old new c.event_of.result c.in-Err.field-0 _ _ c.in-Err.ensures.memory
    c.in-Err.ensures.cannot_write)
