use Rattle.replay.proofs.Common.{EventEnds, Calls}
use Rattle.std.proofs.Common.{◌≡◌, Err, rules, subst, sym}
use Rattle.script.specs.declared.event.RawEvent.TheVariants as event
use Rattle.replay.proofs.Passing.{all_passed, one_passed, passed_ends, rest_passed}
use Rattle.replay.proofs.calm.replay_calm.Goals as goal

pub loop-preserved : goal.loop-preserved
loop-preserved g c =
    let calls : Calls g.row.C.Denot = g.C.Carrier.calls in (
      one_passed calls c.args.detail c.args.carrier.now c.loop.carrier c.pass_round-outcome.new.carrier c.args.rounds c.loop.counter c.pass_round-outcome.result c.log-booked.result.now c.log.result.now
          (g.W.Output.contents c.args.writer.now) (g.W.Output.contents c.loop.writer) (g.W.Output.contents c.print_outcome.new.writer) c.loop-test.true c.loop.invariant.0 c.pass_round-outcome.ensures.round c.pass_round-outcome.ensures.grew
          c.pass_round-outcome.ensures.told c.log-booked.ensures.value c.log.ensures.value c.in_ok-print_outcome.ensures.ends,
      c.in_ok-print_outcome.ensures.failed,
    )

pub returns-in_err-print_outcome-clause-ends : goal.returns-in_err-print_outcome-clause-ends
returns-in_err-print_outcome-clause-ends g c =
    let calls : Calls g.row.C.Denot = g.C.Carrier.calls in
    let same : c.from_residual.result ≡ Err c.in_err-print_outcome.field-0.0 = search rules in
    subst (λ r. EventEnds calls c.args.detail c.args.carrier.now (event.Calm c.args.rounds) r c.pass_round-outcome.new.carrier (g.W.Output.contents c.args.writer.now) (g.W.Output.contents c.print_outcome.new.writer)) (sym same)
    (passed_ends calls c.args.detail c.args.carrier.now c.loop.carrier c.pass_round-outcome.new.carrier c.args.rounds c.loop.counter c.pass_round-outcome.result c.in_err-print_outcome.field-0.0 c.log-booked.result.now c.log.result.now
    (g.W.Output.contents c.args.writer.now) (g.W.Output.contents c.loop.writer) (g.W.Output.contents c.print_outcome.new.writer) c.loop-test.true c.loop.invariant.0 c.pass_round-outcome.ensures.round c.pass_round-outcome.ensures.grew
    c.log-booked.ensures.value c.log.ensures.value c.in_err-print_outcome.ensures.ends)

pub returns-then-rests_beside-clause-ends : goal.returns-then-rests_beside-clause-ends
returns-then-rests_beside-clause-ends g c =
    let calls : Calls g.row.C.Denot = g.C.Carrier.calls in
    rest_passed calls c.args.detail c.args.carrier.now c.loop.carrier c.args.rounds c.loop.counter (g.W.Output.contents c.args.writer.now) (g.W.Output.contents c.loop.writer) c.loop.invariant.0 (c.rests_beside.ensures.unchanged c.if-rests_beside.true)

pub returns-clause-ends : goal.returns-clause-ends
returns-clause-ends g c =
    let calls : Calls g.row.C.Denot = g.C.Carrier.calls in
    all_passed calls c.args.detail c.args.carrier.now c.loop.carrier c.args.rounds c.loop.counter (g.W.Output.contents c.args.writer.now) (g.W.Output.contents c.loop.writer) c.loop-test.false c.loop.invariant.0
