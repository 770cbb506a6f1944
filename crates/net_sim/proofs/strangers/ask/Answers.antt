use Rattle.net_sim.proofs.Common.{rules, Calls, shown}
use Rattle.net_sim.proofs.Hosts.Strange.{ask_plain}
use Rattle.net_sim.proofs.strangers.ask.Goals as goal

pub returns : goal.returns
returns g c =
    let calls : Calls g.row.C.Denot = shown g.C.Carrier.calls in
    ask_plain calls c.args.strangers.now c.args.carrier.now c.follow.new.carrier c.args.hosts.now c.follow.new.hosts c.follow.result c.args.event.now (search rules) c.follow.ensures
