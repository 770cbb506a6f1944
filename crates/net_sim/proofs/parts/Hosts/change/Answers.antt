use Rattle.net_sim.proofs.Common.{rules}
use Rattle.std.proofs.Common.{reverse}
use Rattle.net_sim.proofs.Hosts.Parts.{seats_back, services_back, turned_hosts}
use Rattle.net_sim.proofs.parts.Hosts.change.Goals as goal

pub returns-clause-done : goal.returns-clause-done
returns-clause-done c =
    rw (← c.self.view_is)
    (seats_back c.self.inside.seats.len c.args.news.now c.self.inside.seats.items c.turn_all.new.seats (search rules) (search rules))

pub returns-clause-services : goal.returns-clause-services
returns-clause-services c =
    rw (← c.self.view_is)
    (services_back c.self.inside.services.len c.args.news.now c.self.inside.services.items c.empty_all.new.all (search rules) (search rules))

pub invariant_of-self-2 : goal.invariant_of-self-2
invariant_of-self-2 c =
    turned_hosts (reverse c.args.news.now) c.self.inside.seats.items _ c.self.inside.services.items _ c.self.invariant
    (seats_back c.self.inside.seats.len c.args.news.now c.self.inside.seats.items c.turn_all.new.seats (search rules) (search rules))
    (services_back c.self.inside.services.len c.args.news.now c.self.inside.services.items c.empty_all.new.all (search rules) (search rules))
