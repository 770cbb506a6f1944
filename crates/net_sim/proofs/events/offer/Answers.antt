use Rattle.net_sim.proofs.Common.{rules, [], ◌∷◌, ap, ◌-◌, take, drop, length, sym, ◌∙◌, Calls, Seen, shown, services_of}
use Rattle.interface.specs.declared.crossing.Crossing.TheVariants as crossing
use Rattle.net_sim.proofs.Hosts.Ends.{offer_ends, offer_halts, newest}
use Rattle.net_sim.proofs.events.offer.Goals as goal

pub returns-in_err-message : goal.returns-in_err-message
returns-in_err-message g c =
    let calls : Calls g.row.C.Denot = shown g.C.Carrier.calls in
    let sits = c.in_ok-at.ensures in
    let none = c.in_err-message.ensures c.args.host sits.0 sits.1.0 in
    offer_halts calls c.args.host c.in_ok-at.at sits.0 c.args.carrier.now c.args.hosts.now.seats c.args.hosts.now.services c.args.hosts.now.book c.in_err-message.field-0.0 c.from_residual-in_err-message.result sits.1.0 none.0 none.1 (search rules)

pub returns : goal.returns
returns g c =
    let calls : Calls g.row.C.Denot = shown g.C.Carrier.calls in
    let sits = c.in_ok-at.ensures in
    offer_ends calls c.args.host c.in_ok-at.at sits.0 c.in-Some.message c.args.carrier.now c.offer_out.new.self c.args.hosts.now.seats c.go_out.new.self.seats c.args.hosts.now.services c.go_out.new.self.services c.args.hosts.now.book c.go_out.new.self.book (take (length c.log.result.now - length c.log-before.result.now) (drop (length c.log-before.result.now) c.log.result.now)) c.go_out.result
    sits.1.0 (sym (c.in_ok-message.ensures c.args.host sits.0 sits.1.0) ∙ c.in-Some.is) (search rules) (newest (crossing.Out c.in-Some.message ∷ []) (g.C.Carrier.calls.seen c.args.carrier.now).log (g.C.Carrier.calls.seen c.offer_out.new.self).log c.log-before.result.now c.log.result.now c.log-before.ensures.value c.log.ensures.value (ap (λ (s : Seen). s.log) c.in_default-offer_out.ensures.shown.shown)) (c.go_out.ensures.done c.args.host sits.0 (services_of c.args.host c.args.hosts.now.services) sits.1.0 sits.1.1) c.go_out.ensures.kept
