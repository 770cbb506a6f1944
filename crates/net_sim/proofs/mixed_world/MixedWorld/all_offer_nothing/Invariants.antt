use Rattle.std.proofs.Common.{ℕ, ◌<◌}
use Rattle.net_sim.specs.Inside.Calm.{OffersNothingAt}
use Rattle.net_sim.proofs.mixed_world.MixedWorld.all_offer_nothing.Given as goal

-- the hosts so far
abbrev pub invariant-loop-at : goal.invariant-loop-at
invariant-loop-at g l = (at : ℕ) → at < l.at → OffersNothingAt g.C.Carrier.calls l.self.carrier l.self.seats at
