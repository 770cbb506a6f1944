use Rattle.replay.proofs.Common.{refl, Calls}
use Rattle.script.specs.declared.event.RawEvent.TheVariants as event
use Rattle.replay.proofs.Shown.{call_ends, grew_step, refused_step}
use Rattle.replay.proofs.events.replay_step.Goals as goal

pub returns-clause-ends : goal.returns-clause-ends
returns-clause-ends g c =
    let calls : Calls g.row.C.Denot = g.C.Carrier.calls in
    let old = g.C.Carrier.calls.seen c.args.carrier.now in
    let new = g.C.Carrier.calls.seen c.step-outcome.new.self in
    call_ends calls c.args.detail c.args.carrier.now c.step-outcome.new.self (event.Net c.args.event) c.step-outcome.result c.print_outcome.result c.log-booked.result.now c.log.result.now (g.W.Output.contents c.args.writer.now) (g.W.Output.contents c.print_outcome.new.writer)
    refl c.step-outcome.ensures.relation (grew_step old c.args.event c.step-outcome.result new c.step-outcome.ensures.shown) (refused_step old c.args.event c.step-outcome.result new c.step-outcome.ensures.shown) c.log-booked.ensures.value c.log.ensures.value c.print_outcome.ensures.ends
