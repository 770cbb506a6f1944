use Rattle.net_sim.proofs.Common.{rules, [], ◌∷◌, ◌-◌, take, drop, length, Calls, crossing_of, shown, services_of}
use Rattle.net_sim.proofs.Hosts.Ends.{take_ends, take_shown, newest}
use Rattle.net_sim.proofs.events.take.Goals as goal

pub returns-in-Ok-Some : goal.returns-in-Ok-Some
returns-in-Ok-Some g c =
    let calls : Calls g.row.C.Denot = shown g.C.Carrier.calls in
    let sits = c.in_ok-at.ensures in
    take_ends calls c.args.host c.in_ok-at.at sits.0 c.in-Ok-Some.inbound c.args.carrier.now c.take_in.new.self c.args.hosts.now.seats c.hear.new.self.seats c.args.hosts.now.services c.hear.new.self.services c.args.hosts.now.book c.hear.new.self.book (take (length c.log.result.now - length c.log-before.result.now) (drop (length c.log-before.result.now) c.log.result.now)) c.hear.result
    sits.1.0 (search rules) (newest (crossing_of c.in-Ok-Some.inbound ∷ []) (g.C.Carrier.calls.seen c.args.carrier.now).log (g.C.Carrier.calls.seen c.take_in.new.self).log c.log-before.result.now c.log.result.now c.log-before.ensures.value c.log.ensures.value (take_shown (g.C.Carrier.calls.seen c.args.carrier.now) c.args.host c.in-Ok-Some.field-0 c.in-Ok-Some.inbound (g.C.Carrier.calls.seen c.take_in.new.self) c.in-Ok-Some.ensures.shown (search rules))) (c.hear.ensures.done c.args.host sits.0 (services_of c.args.host c.args.hosts.now.services) sits.1.0 sits.1.1) c.hear.ensures.kept
