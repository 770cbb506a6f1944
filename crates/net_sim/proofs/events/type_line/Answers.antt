use Rattle.net_sim.proofs.Common.{services_of}
use Rattle.net_sim.proofs.Hosts.Ends.{type_ends}
use Rattle.net_sim.proofs.events.type_line.Goals as goal

pub returns : goal.returns
returns g c =
    let sits = c.in_ok-at.ensures in
    type_ends c.args.host c.args.line.now c.in_ok-at.at sits.0 c.args.carrier.now c.args.hosts.now.seats c.type_at.new.self.seats c.args.hosts.now.services c.type_at.new.self.services c.args.hosts.now.book c.type_at.new.self.book c.type_at.result
    sits.1.0 (c.type_at.ensures.without c.args.host (services_of c.args.host c.args.hosts.now.services) sits.1.1)
    (c.type_at.ensures.refused c.args.host sits.0 (services_of c.args.host c.args.hosts.now.services) sits.1.0 sits.1.1)
    (c.type_at.ensures.served c.args.host sits.0 (services_of c.args.host c.args.hosts.now.services) sits.1.0 sits.1.1)
