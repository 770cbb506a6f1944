use Rattle.net_sim.specs.Inside.Calm.{OffersNothingAt}
use Rattle.net_sim.proofs.Hosts.Resting.{one_more}
use Rattle.net_sim.proofs.mixed_world.MixedWorld.all_offer_nothing.Goals as goal

pub loop-at-preserved : goal.loop-at-preserved
loop-at-preserved g c =
    one_more (OffersNothingAt g.C.Carrier.calls c.args.self.now.carrier c.args.self.now.seats) c.loop-at.at c.offers_nothing_at.result c.if-not-offers_nothing_at.false c.loop-at.invariant c.offers_nothing_at.ensures
