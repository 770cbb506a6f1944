use Rattle.net_sim.proofs.Common.{◌≡◌, rules, List, subst, NcpState, Seat, Sits}
use Rattle.std.proofs.Common.{MatchResult}
use Rattle.net_sim.specs.Inside.Parts.{AreHosts, HostsState, IsAway}
use Rattle.net_sim.proofs.Hosts.Parts.{up_served}
use Rattle.net_sim.proofs.parts.Hosts.up_near.Goals as goal

pub returns : goal.returns
returns c =
    let seats : c.deref.result.now ≡ c.args.self.now.seats = search rules in
    up_served c.args.host c.args.self.now c.up_near.result
    (subst (λ (h : HostsState). AreHosts h.seats h.services) c.self.view_is c.self.invariant)
    (subst (λ (ss : List Seat). MatchResult c.up_near.result (λ at. (s : NcpState) × Sits c.args.host at s ss) (λ f. IsAway c.args.host f ss))
    seats c.up_near.ensures)
