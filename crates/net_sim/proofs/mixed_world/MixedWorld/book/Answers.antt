use Rattle.net_sim.proofs.Common.{rules}
use Rattle.net_sim.proofs.Books.Lent.{lent}
use Rattle.net_sim.proofs.Books.Nobody.{among_lawful}
use Rattle.net_sim.proofs.Books.Strangers.{none_strange}
use Rattle.net_sim.specs.Clean.{IsLawfulAmong}
use Rattle.net_sim.specs.Steps.{strange_in}
use Rattle.net_sim.proofs.mixed_world.MixedWorld.book.Goals as goal

pub book-requires : goal.book-requires
book-requires g c =
    lent c.self.inside.hosts.book c.log.result.now (g.C.Carrier.calls.seen c.self.inside.carrier).log c.self.invariant.lawful.booked.unbooked
    c.log.ensures.value c.self.invariant.lawful.booked.book

pub returns-clause-alone : goal.returns-clause-alone
returns-clause-alone g c = λ none.
    let lawful : IsLawfulAmong (strange_in c.args.self.now) g.C.Carrier.calls.seen (g.C.Carrier.calls.seen c.args.self.now.carrier).hosts c.args.self.now = search rules in
    among_lawful (strange_in c.args.self.now) (none_strange c.args.self.now none) g.C.Carrier.calls.seen
    (g.C.Carrier.calls.seen c.args.self.now.carrier).hosts c.args.self.now lawful
