use Rattle.net_sim.proofs.Common.{rules, ◌≡◌, [], Calls}
use Rattle.net_sim.specs.Clean.{IsLawfulAmong}
use Rattle.net_sim.specs.Steps.{strange_in}
use Rattle.net_sim.proofs.Books.Nobody.{among_lawful}
use Rattle.net_sim.proofs.Books.Strangers.{none_strange}
use Rattle.net_sim.proofs.world.World.book.Goals as goal

pub returns-clause-lawful : goal.returns-clause-lawful
returns-clause-lawful g c =
    let calls : Calls g.row.C.Denot = g.C.Carrier.calls in
    let none : c.args.self.now.strangers ≡ [] = search rules in
    let lawful : IsLawfulAmong (strange_in c.args.self.now) g.C.Carrier.calls.seen (g.C.Carrier.calls.seen c.args.self.now.carrier).hosts c.args.self.now = search rules in
    among_lawful (strange_in c.args.self.now) (none_strange c.args.self.now none) calls.seen (calls.seen c.args.self.now.carrier).hosts c.args.self.now lawful
