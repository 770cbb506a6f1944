use Rattle.trace.proofs.Common.{rules, IsOneCall, Calls, Inside, on_ok}
use Rattle.trace.proofs.Rounds.Handing.{one_call_seen}
use Rattle.trace.proofs.Rounds.Told.{one_element, one_ends}
use Rattle.trace.proofs.events.trace_event.Goals as goal

pub returns-in-Out-clause-ends : goal.returns-in-Out-clause-ends
returns-in-Out-clause-ends g c =
    let calls : Calls g.row.C.Denot = g.C.Carrier.calls in
    let inside : Inside g.row.C.Denot = g.C.Inspect.inside in
    let one : IsOneCall c.args.event.now = search rules in
    one_ends calls inside c.args.carrier.now c.trace_element.new.carrier c.args.spot c.args.event.now (record { round = 0; event = c.args.event.now }) c.trace_element.result (g.W.Output.contents c.args.writer.now) (g.W.Output.contents c.trace_element.new.writer)
    (one_element (inside.calm c.args.carrier.now) c.args.event.now one) c.trace_element.ensures.ends

pub returns-in-Out-clause-seen : goal.returns-in-Out-clause-seen
returns-in-Out-clause-seen g c =
    let calls : Calls g.row.C.Denot = g.C.Carrier.calls in
    let inside : Inside g.row.C.Denot = g.C.Inspect.inside in
    let one : IsOneCall c.args.event.now = search rules in
    on_ok c.trace_element.result
    (λ ends. one_call_seen calls inside g.W.Output.contents g.W.Output.flushed c.args.spot c.args.event.now (c.args.carrier.now, c.args.writer.now) (c.trace_element.new.carrier, c.trace_element.new.writer) one)
    c.trace_element.ensures.known
