use Rattle.net_sim.proofs.Common.{rules, Calls, shown}
use Rattle.net_sim.proofs.Hosts.Strange.{take_plain, take_strange}
use Rattle.net_sim.proofs.strangers.take.Goals as goal

pub returns-then-is_among : goal.returns-then-is_among
returns-then-is_among g c =
    let calls : Calls g.row.C.Denot = shown g.C.Carrier.calls in
    take_strange calls c.args.strangers.now c.args.carrier.now c.fetch.new.carrier c.args.hosts.now c.fetch.new.hosts c.fetch.result c.args.host (search rules) c.fetch.ensures

pub returns : goal.returns
returns g c =
    let calls : Calls g.row.C.Denot = shown g.C.Carrier.calls in
    take_plain calls c.args.strangers.now c.args.carrier.now c.take.new.carrier c.args.hosts.now c.take.new.hosts c.take.result c.args.host (search rules) c.take.ensures
