use Rattle.replay.proofs.Common.{Calls}
use Rattle.std.proofs.Common.{◌≡◌, refl, sym, subst, IfErr}
use Rattle.script.specs.declared.event.RawEvent.TheVariants as event
use Rattle.replay.proofs.Shown.{call_ends, grew_take, refused_take}
use Rattle.replay.proofs.events.replay_taking.Goals as goal

pub returns-clause-ends : goal.returns-clause-ends
returns-clause-ends g c =
    let calls : Calls g.row.C.Denot = g.C.Carrier.calls in
    let old = g.C.Carrier.calls.seen c.args.carrier.now in
    let new = g.C.Carrier.calls.seen c.take_in.new.self in
    let same = refused_take old c.args.host c.take_in.result new c.take_in.ensures.shown in
    call_ends calls c.args.detail c.args.carrier.now c.take_in.new.self (event.Take c.args.host) c.outcome_of-outcome.result c.print_outcome.result c.log-booked.result.now c.log.result.now (g.W.Output.contents c.args.writer.now) (g.W.Output.contents c.print_outcome.new.writer)
    refl (c.take_in.result, c.take_in.ensures.relation, c.outcome_of-outcome.ensures) (grew_take old c.args.host c.take_in.result new c.take_in.ensures.shown)
    (subst (λ r. IfErr r (λ f. new.log ≡ old.log)) (sym c.outcome_of-outcome.ensures) same) c.log-booked.ensures.value c.log.ensures.value c.print_outcome.ensures.ends
