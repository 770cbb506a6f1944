use Rattle.world_trace.proofs.Common.{subst, sym, shown, Calls, WorldEvent, EventEnds}
use Rattle.world_trace.proofs.Telling.{happen_ends}
use Rattle.world_trace.proofs.traced.trace_world_event.Goals as goal

pub returns-in-Happen-clause-ends : goal.returns-in-Happen-clause-ends
returns-in-Happen-clause-ends g c =
    let calls : Calls g.row.C.Denot = shown g.C.Carrier.calls in
    subst (λ (e : WorldEvent). EventEnds calls g.C.Inspect.inside.members c.args.spot c.args.world.now e c.trace_one.result c.trace_one.new.world (g.W.Output.contents c.args.writer.now) (g.W.Output.contents c.trace_one.new.writer)) (sym c.in-Happen.is)
    (happen_ends calls g.C.Inspect.inside.members c.args.spot c.args.world.now c.trace_one.new.world c.in-Happen.event c.trace_one.result (g.W.Output.contents c.args.writer.now) (g.W.Output.contents c.trace_one.new.writer) c.trace_one.ensures.ends)
