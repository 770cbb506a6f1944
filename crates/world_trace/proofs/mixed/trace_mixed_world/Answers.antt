use Rattle.world_trace.proofs.Common.{shown, Calls, on_ok}
use Rattle.world_trace.specs.MixedTraces.{MixedTraceStops, TracesMixed, mixed_opening}
use Rattle.world_trace.proofs.Telling.{after_line}
use Rattle.world_trace.proofs.mixed.trace_mixed_world.Goals as goal

pub returns-clause-traced : goal.returns-clause-traced
returns-clause-traced g c =
    let calls : Calls g.row.C.Denot = shown g.C.Carrier.calls in
    on_ok c.trace_all.result
    (λ h. after_line (mixed_opening g.C.Inspect.inside.members c.args.network.now c.args.world.now)
    (TracesMixed calls g.C.Inspect.inside.members c.args.world.now c.args.events.items c.trace_all.new.world)
    (g.W.Output.contents c.args.writer.now) (g.W.Output.contents c.print_opening.new.writer)
    (g.W.Output.contents c.trace_all.new.writer) c.in_ok-print_opening.ensures.written h)
    c.trace_all.ensures.traced

pub returns-clause-seen : goal.returns-clause-seen
returns-clause-seen g c =
    on_ok c.trace_all.result (λ seen. (c.print_opening.new.writer, c.in_ok-print_opening.ensures.written, seen))
    c.trace_all.ensures.seen

pub returns-clause-memory : goal.returns-clause-memory
returns-clause-memory g c = λ e.
    let calls : Calls g.row.C.Denot = shown g.C.Carrier.calls in
    after_line (mixed_opening g.C.Inspect.inside.members c.args.network.now c.args.world.now)
    (MixedTraceStops calls g.C.Inspect.inside.members c.args.world.now c.args.events.items c.trace_all.new.world)
    (g.W.Output.contents c.args.writer.now) (g.W.Output.contents c.print_opening.new.writer)
    (g.W.Output.contents c.trace_all.new.writer) c.in_ok-print_opening.ensures.written (c.trace_all.ensures.memory e)
