use Rattle.trace.proofs.Common.{◌≡◌, Err, ap, arith, rules, Calls, begins_in, Inside}
use Rattle.trace.proofs.Rounds.Told.{is_fault, over_here, round_early, round_ends, round_more, round_shorter}
use Rattle.trace.proofs.events.trace_round.Goals as goal

-- an elementary event of another round comes
pub returns-then-element-round-clause-ends : goal.returns-then-element-round-clause-ends
returns-then-element-round-clause-ends g c =
    let calls : Calls g.row.C.Denot = g.C.Carrier.calls in
    let inside : Inside g.row.C.Denot = g.C.Inspect.inside in
    round_ends calls inside g.C.Inspect.left c.args.spot c.args.round c.args.carrier.now c.elements.carrier c.args.begin
    c.elements.place (g.W.Output.contents c.args.writer.now)
    (g.W.Output.contents c.elements.writer) c.requires.begins
    (over_here calls g.C.Inspect.left c.args.round c.elements.carrier c.elements.place c.in-Some.next c.in-Some.element
    c.in-Some.ensures (λ same. omega (arith, same, c.if-element-round.true)))
    c.elements.invariant.0

-- or none comes
pub returns-clause-ends : goal.returns-clause-ends
returns-clause-ends g c =
    let calls : Calls g.row.C.Denot = g.C.Carrier.calls in
    let inside : Inside g.row.C.Denot = g.C.Inspect.inside in
    round_ends calls inside g.C.Inspect.left c.args.spot c.args.round c.args.carrier.now c.elements.carrier c.args.begin
    c.elements.place (g.W.Output.contents c.args.writer.now)
    (g.W.Output.contents c.elements.writer) c.requires.begins
    (ap (begins_in c.args.round) c.in_default.ensures) c.elements.invariant.0

pub returns-in_err-trace_element-clause-ends : goal.returns-in_err-trace_element-clause-ends
returns-in_err-trace_element-clause-ends g c =
    let calls : Calls g.row.C.Denot = g.C.Carrier.calls in
    let inside : Inside g.row.C.Denot = g.C.Inspect.inside in
    let same : c.in-Some.element.round ≡ c.args.round = omega (arith, c.if-element-round.false) in
    let told : c.from_residual.result ≡ Err c.in_err-trace_element.field-0.0 = search rules in
    round_early calls inside g.C.Inspect.left c.args.spot c.args.round c.args.carrier.now c.elements.carrier
    c.trace_element.new.carrier c.args.begin c.elements.place c.in-Some.next c.in-Some.element
    c.trace_element.result c.from_residual.result
    (g.W.Output.contents c.args.writer.now) (g.W.Output.contents c.elements.writer)
    (g.W.Output.contents c.trace_element.new.writer) c.in-Some.ensures same c.elements.invariant.0
    c.trace_element.ensures.ends
    (is_fault c.trace_element.result c.from_residual.result c.in_err-trace_element.field-0.0 c.in_err-trace_element.was
    told)

pub elements-preserved : goal.elements-preserved
elements-preserved g c =
    let calls : Calls g.row.C.Denot = g.C.Carrier.calls in
    let inside : Inside g.row.C.Denot = g.C.Inspect.inside in
    let same : c.in-Some.element.round ≡ c.args.round = omega (arith, c.if-element-round.false) in (
      round_more calls inside g.C.Inspect.left c.args.spot c.args.round c.args.carrier.now c.elements.carrier
          c.trace_element.new.carrier c.args.begin c.elements.place c.in-Some.next c.in-Some.element
          (g.W.Output.contents c.args.writer.now) (g.W.Output.contents c.elements.writer)
          (g.W.Output.contents c.trace_element.new.writer) c.in-Some.ensures same c.elements.invariant.0
          c.in_ok-trace_element.ensures.ends,
      c.in_ok-trace_element.ensures.failed,
      c.in_ok-trace_element.ensures.known,
      c.in_ok-trace_element.ensures.some,
    )

pub elements-smaller : goal.elements-smaller
elements-smaller g c =
    let calls : Calls g.row.C.Denot = g.C.Carrier.calls in
    let inside : Inside g.row.C.Denot = g.C.Inspect.inside in
    round_shorter calls inside g.C.Inspect.left c.args.spot c.elements.carrier c.trace_element.new.carrier
    c.elements.place c.in-Some.next c.in-Some.element
    (g.W.Output.contents c.elements.writer)
    (g.W.Output.contents c.trace_element.new.writer) c.in-Some.ensures c.in_ok-trace_element.ensures.ends
