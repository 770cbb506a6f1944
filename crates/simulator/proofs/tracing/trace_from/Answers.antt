use Rattle.simulator.proofs.Common.{Err, ap, Calls, told_memory, told_write}
use Rattle.trace.specs.Traces.{Inside}
use Rattle.simulator.proofs.Traces.Traced.{flushed_trace}
use Rattle.simulator.proofs.tracing.trace_from.Goals as goal

pub returns-in-Ok-clause-traced : goal.returns-in-Ok-clause-traced
returns-in-Ok-clause-traced g c =
    let calls : Calls g.row.C.Denot = g.C.Carrier.calls in
    let inside : Inside g.row.C.Denot = g.C.Inspect.inside in
    flushed_trace calls inside c.args.network.now c.args.carrier c.trace_events.new.carrier c.args.events.now (g.W.Output.contents c.args.writer.now) (g.W.Output.contents c.trace_events.new.writer) (g.W.Output.contents c.flush.new.self) c.in-Ok.ensures.traced c.flush.ensures.kept

pub returns-clause-stopped : goal.returns-clause-stopped
returns-clause-stopped g c = λ e. record { last = c.trace_events.new.carrier; traced = c.in-Err.ensures.memory (ap Err (told_memory c.in-Err.fault c.from.result c.from.ensures e)) }

pub returns-clause-failed : goal.returns-clause-failed
returns-clause-failed g c = told_write c.in-Err.fault c.from.result (g.W.Output.failed c.trace_events.new.writer) c.from.ensures c.in-Err.ensures.failed
