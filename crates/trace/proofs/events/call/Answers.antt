use Rattle.trace.proofs.Common.{outcome_of, Calls, RawEvent, Called}
use Rattle.std.proofs.Common.{◌≡◌, Ok, IfOk, ap, rules, subst, sym, ◌∙◌}
use Rattle.script.specs.declared.event.RawEvent.TheVariants as event
use Rattle.trace.proofs.Calling.{called_offer, called_take}
use Rattle.trace.proofs.events.call.Goals.{in-Ok, in-Err}
use Rattle.trace.proofs.events.call.Goals as goal

pub returns-in_ok-clone-in-Out-clause-called : goal.returns-in_ok-clone-in-Out-clause-called
returns-in_ok-clone-in-Out-clause-called g c =
    let calls : Calls g.row.C.Denot = g.C.Carrier.calls in
    subst (λ (e : RawEvent). Called calls c.args.carrier.now e c.offer_out.result c.offer_out.new.self) (ap event.Out c.in_ok-clone-in-Out.ensures.cases ∙ sym c.in-Out.is)
    (called_offer calls c.args.carrier.now c.offer_out.new.self c.in_ok-clone-in-Out.field-0 c.offer_out.result c.offer_out.ensures.relation c.offer_out.ensures.shown)

pub returns-after-take_in-clause-called : goal.returns-after-take_in-clause-called
returns-after-take_in-clause-called g c =
    let calls : Calls g.row.C.Denot = g.C.Carrier.calls in
    let called : Called calls c.args.carrier.now c.args.event.now (outcome_of c.take_in.result) c.take_in.new.self =
    subst (λ (e : RawEvent). Called calls c.args.carrier.now e (outcome_of c.take_in.result) c.take_in.new.self) (sym c.in-Take.is)
    (called_take calls c.args.carrier.now c.take_in.new.self c.in-Take.host c.take_in.result c.take_in.ensures.relation c.take_in.ensures.shown) in
    let is : c.match-take_in.result ≡ Ok (outcome_of c.take_in.result) = elim c.match-take_in.branch [ in-Ok w ↦ search rules | in-Err w ↦ search rules ] in
    subst (λ r. IfOk r (λ outcome. Called calls c.args.carrier.now c.args.event.now outcome c.take_in.new.self)) (sym is) called
