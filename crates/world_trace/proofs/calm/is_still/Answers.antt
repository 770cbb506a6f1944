use Rattle.world_trace.proofs.Common.{◌≡◌, List, None, Ok, ℕ, subst, sym, shown, WorldState, Calls, CalmEvent, AllParts}
use Rattle.world_trace.specs.Steps.{IsStill, event_of}
use Rattle.world_trace.proofs.Stays.{offer_still, take_still}
use Rattle.world_trace.proofs.calm.is_still.Goals as goal

pub returns-in-Take : goal.returns-in-Take
returns-in-Take g c = λ e.
    let own : Calls g.row.C.Denot = g.C.Carrier.calls in
    let members : g.row.C.Denot → AllParts = g.C.Inspect.inside.members in
    let w : WorldState g.row.C.Denot = (g.T.Traced.state c.args.world.now) in
    let nothing : (n : g.row.C.Denot) → own.takes w.carrier c.in-Take.host (Ok None) n → members n ≡ members w.carrier =
    subst (λ (k : g.row.C.Denot). (n : g.row.C.Denot) → own.takes k c.in-Take.host (Ok None) n → members n ≡ members k)
    c.carrier-in-Take.ensures (c.is_still.ensures e) in
    subst (λ (x : CalmEvent). IsStill (shown own) members w (event_of x)) (sym c.in-Take.is)
    (take_still own members c.in-Take.host w nothing c.keeps.ensures.refused)

pub returns-in-Offer : goal.returns-in-Offer
returns-in-Offer g c = λ e.
    let own : Calls g.row.C.Denot = g.C.Carrier.calls in
    let members : g.row.C.Denot → AllParts = g.C.Inspect.inside.members in
    let w : WorldState g.row.C.Denot = (g.T.Traced.state c.args.world.now) in
    subst (λ (x : CalmEvent). IsStill (shown own) members w (event_of x)) (sym c.in-Offer.is)
    (offer_still own members c.in-Offer.field-0 w c.keeps.ensures.offered)
