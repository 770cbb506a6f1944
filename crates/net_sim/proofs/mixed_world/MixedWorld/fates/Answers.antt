use Rattle.net_sim.specs.Steps.{strange_in}
use Rattle.net_sim.proofs.Books.Fated.{among_fated}
use Rattle.net_sim.proofs.mixed_world.MixedWorld.fates.Goals as goal

pub returns-clause-fated : goal.returns-clause-fated
returns-clause-fated g c =
    among_fated (strange_in c.args.self.now) g.C.Carrier.calls.seen
    (g.C.Carrier.calls.seen c.args.self.now.carrier).hosts c.args.self.now c.book.ensures.lawful
