use Rattle.trace.proofs.Common.{Calls, on_ok}
use Rattle.trace.specs.Traces.{Inside, StopsElement, TraceEnds, Traces}
use Rattle.trace.proofs.Telling.{opened}
use Rattle.trace.proofs.events.trace_events.Goals as goal

pub returns-clause-traced : goal.returns-clause-traced
returns-clause-traced g c =
    let calls : Calls g.row.C.Denot = g.C.Carrier.calls in
    let inside : Inside g.row.C.Denot = g.C.Inspect.inside in
    on_ok c.trace_all.result
    (λ w. opened inside c.args.network.now c.args.carrier.now (Traces calls inside c.args.carrier.now c.args.events.now c.trace_all.new.carrier) (g.W.Output.contents c.args.writer.now) (g.W.Output.contents c.print_opening.new.writer) (g.W.Output.contents c.trace_all.new.writer)
    c.in_ok-print_opening.ensures.written w)
    c.trace_all.ensures.traced

pub returns-clause-seen : goal.returns-clause-seen
returns-clause-seen g c =
    on_ok c.trace_all.result (λ seen. (c.print_opening.new.writer, c.in_ok-print_opening.ensures.written, seen)) c.trace_all.ensures.seen

pub returns-clause-memory : goal.returns-clause-memory
returns-clause-memory g c = λ e.
    let calls : Calls g.row.C.Denot = g.C.Carrier.calls in
    let inside : Inside g.row.C.Denot = g.C.Inspect.inside in
    opened inside c.args.network.now c.args.carrier.now (TraceEnds calls inside (StopsElement calls) c.args.carrier.now c.args.events.now c.trace_all.new.carrier) (g.W.Output.contents c.args.writer.now) (g.W.Output.contents c.print_opening.new.writer) (g.W.Output.contents c.trace_all.new.writer)
    c.in_ok-print_opening.ensures.written (c.trace_all.ensures.memory e)
