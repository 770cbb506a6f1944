use Rattle.net_sim.proofs.Common.{◌≡◌, false, List, subst, sym, ◌∙◌, Calls, Host, RestsBeside, WorldState}
use Rattle.net_sim.proofs.Hosts.Resting.{at_rest}
use Rattle.net_sim.proofs.mixed_world.MixedWorld.has_calmed.Goals as goal

pub returns : goal.returns
returns g c = λ e.
    let own : Calls g.row.C.Denot = g.C.Carrier.calls in
    let w : WorldState g.row.C.Denot = c.args.self.now in
    at_rest own (own.seen w.carrier).hosts w (sym c.is_stopped.ensures ∙ c.if-is_stopped.false)
    (subst (λ (k : g.row.C.Denot). (own.seen k).stopped ≡ false) c.carrier.ensures (c.rests_beside.ensures.running c.if-not-rests_beside.false))
    (subst (λ (k : g.row.C.Denot). RestsBeside own.rounds own.takes w.strangers k) c.carrier.ensures
    (subst (λ (hosts : List Host). RestsBeside own.rounds own.takes hosts c.carrier.result.now) c.strangers.ensures (c.rests_beside.ensures.unchanged c.if-not-rests_beside.false)))
    c.book-book.ensures.lawful
    (c.all_offer_nothing.ensures e)
