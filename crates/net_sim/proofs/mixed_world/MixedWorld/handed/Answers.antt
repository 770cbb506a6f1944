use Rattle.net_sim.specs.Steps.{strange_in}
use Rattle.net_sim.proofs.Books.Unhanded.{among_unhanded}
use Rattle.net_sim.proofs.mixed_world.MixedWorld.handed.Goals as goal

pub returns-clause-empty : goal.returns-clause-empty
returns-clause-empty g c =
    among_unhanded (strange_in c.args.self.now) g.C.Carrier.calls.seen
    (g.C.Carrier.calls.seen c.args.self.now.carrier).hosts c.args.self.now c.book.ensures.lawful
