use Rattle.net_sim.proofs.Common.{Err, ap, ◌∙◌, Seat, Program}
use Rattle.net_sim.proofs.Hosts.Doing.{refused_at}
use Rattle.net_sim.proofs.Hosts.Parts.{kept_at}
use Rattle.net_sim.proofs.parts.Hosts.ask_at.Goals as goal

pub returns-clause-refused : goal.returns-clause-refused
returns-clause-refused c = rw (← c.self.view_is) (λ h s f sits r.
    let had = c.index_mut-2.ensures.value ∙ sits.is c.index_mut-2.result.now in
    let kept = c.ask.ensures.refused s (ap (λ (z : Seat). z.program) had) f r in
    refused_at c.args.at c.self.inside.seats.items c.self.inside.services.items c.index_mut-2.result.now c.ask.new.seat c.index_mut.result.now c.ask.new.self c.self.inside.notes c.ask.new.notes c.ask.result (Err (Program f))
    (kept.0, (kept.1.0 ∙ c.index_mut-2.ensures.value, (kept.1.1.0 ∙ c.index_mut.ensures.value, kept.1.1.1))))

pub invariant_of-self : goal.invariant_of-self
invariant_of-self c =
    kept_at c.args.at c.self.inside.seats.items c.self.inside.services.items _ _ _ _ c.self.invariant
    c.ask.ensures.seat c.index_mut-2.ensures.value c.ask.ensures.host c.index_mut.ensures.value
