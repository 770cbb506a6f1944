use Rattle.world_trace.proofs.Common.{shown, Calls, on_ok}
use Rattle.world_trace.specs.Traces.{StopsOne, TracesWorld, WorldTraceEnds}
use Rattle.world_trace.proofs.Telling.{after_opening}
use Rattle.world_trace.proofs.traced.trace_world.Goals as goal

pub returns-clause-traced : goal.returns-clause-traced
returns-clause-traced g c =
    let calls : Calls g.row.C.Denot = shown g.C.Carrier.calls in
    on_ok c.trace_all.result
    (λ h. after_opening g.C.Inspect.inside.members c.args.network.now c.args.world.now (TracesWorld calls g.C.Inspect.inside.members c.args.world.now c.args.events.items c.trace_all.new.world)
    (g.W.Output.contents c.args.writer.now) (g.W.Output.contents c.print_opening.new.writer) (g.W.Output.contents c.trace_all.new.writer) c.in_ok-print_opening.ensures.written h)
    c.trace_all.ensures.traced

pub returns-clause-seen : goal.returns-clause-seen
returns-clause-seen g c =
    on_ok c.trace_all.result (λ seen. (c.print_opening.new.writer, c.in_ok-print_opening.ensures.written, seen))
    c.trace_all.ensures.seen

pub returns-clause-memory : goal.returns-clause-memory
returns-clause-memory g c = λ e.
    let calls : Calls g.row.C.Denot = shown g.C.Carrier.calls in
    after_opening g.C.Inspect.inside.members c.args.network.now c.args.world.now (WorldTraceEnds calls g.C.Inspect.inside.members (StopsOne calls) c.args.world.now c.args.events.items c.trace_all.new.world)
    (g.W.Output.contents c.args.writer.now) (g.W.Output.contents c.print_opening.new.writer) (g.W.Output.contents c.trace_all.new.writer) c.in_ok-print_opening.ensures.written (c.trace_all.ensures.memory e)
