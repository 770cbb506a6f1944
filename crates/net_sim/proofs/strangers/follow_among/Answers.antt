use Rattle.net_sim.proofs.Common.{Calls, shown}
use Rattle.net_sim.proofs.Hosts.Strange.{asks}
use Rattle.net_sim.proofs.strangers.follow_among.Goals as goal

pub returns-in_default : goal.returns-in_default
returns-in_default g c =
    let calls : Calls g.row.C.Denot = shown g.C.Carrier.calls in
    asks calls c.args.strangers.now c.args.carrier.now c.ask.new.carrier c.args.hosts.now c.ask.new.hosts c.ask.result c.args.event
    (λ m is. c.in_default.not-Out m is) (λ h is. c.in_default.not-Take h is) c.ask.ensures
