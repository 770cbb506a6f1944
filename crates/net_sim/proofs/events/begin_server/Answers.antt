use Rattle.net_sim.proofs.Common.{services_of}
use Rattle.net_sim.proofs.Hosts.Ends.{server_ends}
use Rattle.net_sim.proofs.events.begin_server.Goals as goal

pub returns : goal.returns
returns g c =
    let sits = c.in_ok-at.ensures in
    server_ends c.args.host c.args.listen c.args.base c.in_ok-at.at sits.0 c.args.carrier.now c.args.hosts.now.seats c.server_at.new.self.seats c.args.hosts.now.services c.server_at.new.self.services c.args.hosts.now.book c.server_at.new.self.book c.server_at.result
    sits.1.0 (c.server_at.ensures.done c.args.host sits.0 (services_of c.args.host c.args.hosts.now.services) sits.1.0 sits.1.1) c.server_at.ensures.kept
