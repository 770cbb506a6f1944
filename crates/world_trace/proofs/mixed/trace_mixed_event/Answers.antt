use Rattle.world_trace.proofs.Common.{subst, sym, shown, Calls, WorldEvent}
use Rattle.world_trace.specs.MixedSteps.{EventEndsAmong}
use Rattle.world_trace.proofs.Strangers.{calm_ends, mixed_ends}
use Rattle.world_trace.proofs.mixed.trace_mixed_event.Goals as goal

pub returns-in-Calm-clause-ends : goal.returns-in-Calm-clause-ends
returns-in-Calm-clause-ends g c =
    let calls : Calls g.row.C.Denot = shown g.C.Carrier.calls in
    subst
    (λ (e : WorldEvent). EventEndsAmong calls g.C.Inspect.inside.members c.args.spot c.args.world.now e
    c.trace_calm.result c.trace_calm.new.world (g.W.Output.contents c.args.writer.now)
    (g.W.Output.contents c.trace_calm.new.writer)) (sym c.in-Calm.is)
    (calm_ends calls g.C.Inspect.inside.members c.args.spot c.in-Calm.rounds c.args.world.now c.trace_calm.new.world
    c.trace_calm.result (g.W.Output.contents c.args.writer.now) (g.W.Output.contents c.trace_calm.new.writer)
    c.trace_calm.ensures.ends c.trace_calm.ensures.strangers)

pub returns-in-Happen-clause-ends : goal.returns-in-Happen-clause-ends
returns-in-Happen-clause-ends g c =
    let calls : Calls g.row.C.Denot = shown g.C.Carrier.calls in
    subst
    (λ (e : WorldEvent). EventEndsAmong calls g.C.Inspect.inside.members c.args.spot c.args.world.now e
    c.trace_mixed.result c.trace_mixed.new.world (g.W.Output.contents c.args.writer.now)
    (g.W.Output.contents c.trace_mixed.new.writer)) (sym c.in-Happen.is)
    (mixed_ends calls g.C.Inspect.inside.members c.args.spot c.in-Happen.event c.args.world.now
    c.trace_mixed.new.world c.trace_mixed.result (g.W.Output.contents c.args.writer.now)
    (g.W.Output.contents c.trace_mixed.new.writer) c.trace_mixed.ensures.ends)
