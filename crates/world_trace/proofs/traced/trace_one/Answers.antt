use Rattle.world_trace.proofs.Common.{◌≡◌, [], Err, rules, shown, subst, sym, Calls}
use Rattle.world_trace.specs.Steps.{OneEnds}
use Rattle.replay.specs.declared.events.ReplayFault.TheVariants as fault
use Rattle.world_trace.proofs.Telling.{event_may, tells}
use Rattle.world_trace.proofs.traced.trace_one.Goals as goal

pub returns-in_err-print_line-clause-ends : goal.returns-in_err-print_line-clause-ends
returns-in_err-print_line-clause-ends g c =
    let calls : Calls g.row.C.Denot = shown g.C.Carrier.calls in
    let same : c.from_residual-in_err-print_line.result ≡ Err fault.CannotWrite = search rules in
    subst (λ r. OneEnds calls g.C.Inspect.inside.members c.args.spot c.args.world.now c.args.event r c.pass.new.world
    (g.W.Output.contents c.args.writer.now) (g.W.Output.contents c.print_line.new.writer)) (sym same) (
      [],
      event_may calls c.args.world.now c.pass.new.world c.args.event c.in_ok-passed.passed.printed.items
          c.strangers.ensures.none c.in_ok-passed.ensures.passed.shows,
    )

pub returns-clause-ends : goal.returns-clause-ends
returns-clause-ends g c =
    let calls : Calls g.row.C.Denot = shown g.C.Carrier.calls in
    tells calls g.C.Inspect.inside.members c.args.spot c.args.world.now c.pass.new.world c.args.event c.in_ok-passed.passed
    (g.W.Output.contents c.args.writer.now) (g.W.Output.contents c.print_line.new.writer) c.in_ok-passed.ensures.passed c.in_ok-print_line.ensures.written
