use Rattle.net_sim.proofs.Common.{rules, Calls, shown}
use Rattle.net_sim.proofs.Hosts.Strange.{says_plain, says_strange}
use Rattle.net_sim.proofs.strangers.say.Goals as goal

pub returns-then-is_among : goal.returns-then-is_among
returns-then-is_among g c =
    let calls : Calls g.row.C.Denot = shown g.C.Carrier.calls in
    says_strange calls c.args.strangers.now c.args.carrier.now c.go_out.new.carrier c.args.hosts.now c.go_out.new.hosts c.go_out.result c.args.message (search rules) c.go_out.ensures

pub returns : goal.returns
returns g c =
    let calls : Calls g.row.C.Denot = shown g.C.Carrier.calls in
    says_plain calls c.args.strangers.now c.args.carrier.now c.refuse.new.carrier c.args.hosts.now c.refuse.new.hosts c.refuse.result c.args.message (search rules) c.refuse.ensures
