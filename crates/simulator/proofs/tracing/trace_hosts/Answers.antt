use Rattle.simulator.proofs.Common.{Err, ap, inr, shown, Calls, told_memory, told_write}
use Rattle.simulator.proofs.Traces.Traced.{flushed_world, world_ends}
use Rattle.simulator.proofs.tracing.trace_hosts.Goals as goal

pub returns-in-Ok-clause-traced : goal.returns-in-Ok-clause-traced
returns-in-Ok-clause-traced g c =
    let calls : Calls g.row.C.Denot = shown g.C.Carrier.calls in
    flushed_world calls g.C.Inspect.inside.members c.args.network.now c.args.carrier c.in_ok-world.world c.trace_world.new.world c.args.events.items
    (g.W.Output.contents c.args.writer.now) (g.W.Output.contents c.trace_world.new.writer) (g.W.Output.contents c.flush.new.self) c.in_ok-world.ensures c.in-Ok.ensures.traced c.flush.ensures.kept

pub returns-clause-stopped : goal.returns-clause-stopped
returns-clause-stopped g c = λ e.
    let calls : Calls g.row.C.Denot = shown g.C.Carrier.calls in
    inr (world_ends calls g.C.Inspect.inside.members c.args.network.now c.args.carrier c.in_ok-world.world c.trace_world.new.world c.args.events.items
    (g.W.Output.contents c.args.writer.now) (g.W.Output.contents c.trace_world.new.writer) c.in_ok-world.ensures (c.in-Err.ensures.memory (ap Err (told_memory c.in-Err.fault c.from.result c.from.ensures e))))

pub returns-clause-failed : goal.returns-clause-failed
returns-clause-failed g c = told_write c.in-Err.fault c.from.result (g.W.Output.failed c.trace_world.new.writer) c.from.ensures c.in-Err.ensures.failed
