use Rattle.net_sim.proofs.Common.{services_of}
use Rattle.net_sim.proofs.Hosts.Ends.{ask_ends}
use Rattle.net_sim.proofs.events.ask.Goals as goal

pub returns : goal.returns
returns g c =
    let sits = c.in_ok-at.ensures in
    ask_ends c.args.host c.args.request.now c.in_ok-at.at sits.0 c.args.carrier.now c.args.hosts.now.seats c.ask_at.new.self.seats c.args.hosts.now.services c.ask_at.new.self.services c.args.hosts.now.book c.ask_at.new.self.book c.ask_at.result
    sits.1.0 (λ f. c.ask_at.ensures.refused c.args.host sits.0 f sits.1.0) (c.ask_at.ensures.served c.args.host sits.0 (services_of c.args.host c.args.hosts.now.services) sits.1.0 sits.1.1)
