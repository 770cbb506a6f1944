use Rattle.world_trace.proofs.Common.{shown, Calls}
use Rattle.std.proofs.Common.{◌≡◌, ◌∙◌, refl, ◌<◌, ◌≤◌, Err, false, true, length, le-ltb, lt-ltb, arith, rules, subst, sym}
use Rattle.world_replay.specs.Rounds.{crosses}
use Rattle.world_trace.specs.Steps.{AgainEnds, event_of}
use Rattle.world_trace.proofs.Rounds.Calms.{all_steps, last_step, no_steps, one_step, step_ends}
use Rattle.world_trace.proofs.calm.trace_again.Goals as goal

pub loop-init : goal.loop-init
loop-init g c =
    let calls : Calls g.row.C.Denot = shown g.C.Carrier.calls in (
      no_steps calls g.C.Inspect.inside.members c.args.spot c.args.round (event_of c.args.event.now)
          (g.T.Traced.state c.args.world.now) (g.W.Output.contents c.args.writer.now),
      c.requires.whole,
      omega arith,
      c.requires.known,
      refl,
    )

pub loop-preserved : goal.loop-preserved
loop-preserved g c =
    let calls : Calls g.row.C.Denot = shown g.C.Carrier.calls in
    let l = c.loop in
    let w = (g.T.Traced.state c.trace_step.new.world) in
    let grew : length (g.T.Traced.state l.world).kept.book.crossings < length w.kept.book.crossings =
    omega (arith, c.count_crossings-before.ensures, c.count_crossings.ensures, c.if-count_crossings-before.false) in
    let more : crosses (g.T.Traced.state l.world) w ≡ true =
    lt-ltb (length (g.T.Traced.state l.world).kept.book.crossings) (length w.kept.book.crossings) grew in (
      one_step calls g.C.Inspect.inside.members c.args.spot c.args.round (event_of c.args.event.now) l.counter
          (g.T.Traced.state c.args.world.now) (g.T.Traced.state l.world) w (g.W.Output.contents c.args.writer.now)
          (g.W.Output.contents l.writer) (g.W.Output.contents c.trace_step.new.writer)
          l.invariant.0 c.in_ok-trace_step.ensures.ends more,
      c.in_ok-trace_step.ensures.failed,
      omega (arith, c.loop-test.true),
      c.in_ok-trace_step.ensures.known,
      c.trace_step.ensures.strangers ∙ l.invariant.4,
    )

pub returns-in_err-trace_step-clause-ends : goal.returns-in_err-trace_step-clause-ends
returns-in_err-trace_step-clause-ends g c =
    let calls : Calls g.row.C.Denot = shown g.C.Carrier.calls in
    let l = c.loop in
    let same : c.from_residual.result ≡ Err c.in_err-trace_step.field-0.0 = search rules in
    subst (λ r. AgainEnds calls g.C.Inspect.inside.members c.args.spot c.args.round (g.T.Traced.state c.args.world.now)
    (event_of c.args.event.now, c.args.times) r (g.T.Traced.state c.trace_step.new.world)
    (g.W.Output.contents c.args.writer.now) (g.W.Output.contents c.trace_step.new.writer)) (sym same)
    (step_ends calls g.C.Inspect.inside.members c.args.spot c.args.round (event_of c.args.event.now) l.counter
    c.args.times (g.T.Traced.state c.args.world.now) (g.T.Traced.state l.world)
    (g.T.Traced.state c.trace_step.new.world) c.in_err-trace_step.field-0.0
    (g.W.Output.contents c.args.writer.now) (g.W.Output.contents l.writer) (g.W.Output.contents c.trace_step.new.writer)
    c.loop-test.true l.invariant.0 c.in_err-trace_step.ensures.ends)

pub returns-then-count_crossings-before-clause-ends : goal.returns-then-count_crossings-before-clause-ends
returns-then-count_crossings-before-clause-ends g c =
    let calls : Calls g.row.C.Denot = shown g.C.Carrier.calls in
    let l = c.loop in
    let w = (g.T.Traced.state c.trace_step.new.world) in
    let few : length w.kept.book.crossings ≤ length (g.T.Traced.state l.world).kept.book.crossings =
    omega (arith, c.count_crossings-before.ensures, c.count_crossings.ensures, c.if-count_crossings-before.true) in
    let none : crosses (g.T.Traced.state l.world) w ≡ false =
    le-ltb (length (g.T.Traced.state l.world).kept.book.crossings) (length w.kept.book.crossings) few in
    last_step calls g.C.Inspect.inside.members c.args.spot c.args.round (event_of c.args.event.now) l.counter
    c.args.times (g.T.Traced.state c.args.world.now) (g.T.Traced.state l.world) w
    (g.W.Output.contents c.args.writer.now) (g.W.Output.contents l.writer)
    (g.W.Output.contents c.trace_step.new.writer)
    c.loop-test.true l.invariant.0 c.in_ok-trace_step.ensures.ends none

pub returns-clause-ends : goal.returns-clause-ends
returns-clause-ends g c =
    let calls : Calls g.row.C.Denot = shown g.C.Carrier.calls in
    let l = c.loop in
    all_steps calls g.C.Inspect.inside.members c.args.spot c.args.round (event_of c.args.event.now) l.counter
    c.args.times (g.T.Traced.state c.args.world.now) (g.T.Traced.state l.world)
    (g.W.Output.contents c.args.writer.now) (g.W.Output.contents l.writer)
    (omega (arith, l.invariant.2, c.loop-test.false)) l.invariant.0
