use Rattle.replay.proofs.Common.{refl, Calls}
use Rattle.script.specs.declared.event.RawEvent.TheVariants as event
use Rattle.replay.proofs.Shown.{call_ends, grew_offer, refused_offer}
use Rattle.replay.proofs.events.replay_offer.Goals as goal

pub returns-clause-ends : goal.returns-clause-ends
returns-clause-ends g c =
    let calls : Calls g.row.C.Denot = g.C.Carrier.calls in
    let old = g.C.Carrier.calls.seen c.args.carrier.now in
    let new = g.C.Carrier.calls.seen c.offer_out-outcome.new.self in
    call_ends calls c.args.detail c.args.carrier.now c.offer_out-outcome.new.self (event.Out c.args.message) c.offer_out-outcome.result c.print_outcome.result c.log-booked.result.now c.log.result.now (g.W.Output.contents c.args.writer.now) (g.W.Output.contents c.print_outcome.new.writer)
    refl c.offer_out-outcome.ensures.relation (grew_offer old c.args.message c.offer_out-outcome.result new c.offer_out-outcome.ensures.shown) (refused_offer old c.args.message c.offer_out-outcome.result new c.offer_out-outcome.ensures.shown) c.log-booked.ensures.value c.log.ensures.value c.print_outcome.ensures.ends
