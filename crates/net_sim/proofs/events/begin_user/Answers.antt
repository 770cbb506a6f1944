use Rattle.net_sim.proofs.Common.{services_of}
use Rattle.net_sim.proofs.Hosts.Ends.{user_ends}
use Rattle.net_sim.proofs.events.begin_user.Goals as goal

pub returns : goal.returns
returns g c =
    let sits = c.in_ok-at.ensures in
    user_ends c.args.host c.args.peer c.args.listen c.args.own c.in_ok-at.at sits.0 c.args.carrier.now c.args.hosts.now.seats c.user_at.new.self.seats c.args.hosts.now.services c.user_at.new.self.services c.args.hosts.now.book c.user_at.new.self.book c.user_at.result
    sits.1.0 (c.user_at.ensures.done c.args.host sits.0 (services_of c.args.host c.args.hosts.now.services) sits.1.0 sits.1.1) c.user_at.ensures.kept
