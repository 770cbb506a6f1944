use Rattle.net_sim.proofs.Hosts.Parts.{kept_at}
use Rattle.net_sim.proofs.parts.Hosts.go_out.Goals as goal

pub invariant_of-self : goal.invariant_of-self
invariant_of-self c =
    kept_at c.args.at c.self.inside.seats.items c.self.inside.services.items _ _ _ _ c.self.invariant
    c.go_out.ensures.seat c.index_mut-2.ensures.value c.go_out.ensures.host c.index_mut.ensures.value

pub invariant_of-self-2 : goal.invariant_of-self-2
invariant_of-self-2 c =
    kept_at c.args.at c.self.inside.seats.items c.self.inside.services.items _ _ _ _ c.self.invariant
    c.go_out.ensures.seat c.index_mut-2.ensures.value c.go_out.ensures.host c.index_mut.ensures.value
