use Rattle.world_trace.proofs.Common.{◌≡◌, ◌∙◌, List, ℕ, subst, sym, Calls, seat_member, services_member, WorldState}
use Rattle.world_trace.specs.Steps.{AreOthers, at_host, seat_place, service_place}
use Rattle.world_trace.specs.MixedSteps.{mixed_reach}
use Rattle.world_trace.specs.declared.mixed.Reach.TheVariants as reach
use Rattle.world_trace.proofs.Strangers.{mixed_others}
use Rattle.world_trace.proofs.mixed.pass.Goals as goal

-- what is at other hosts is as before
pub change_one-requires-clause-programs : goal.change_one-requires-clause-programs
change_one-requires-clause-programs g c =
    let own : Calls g.row.C.Denot = g.C.Carrier.calls in
    let new : WorldState g.row.C.Denot = c.happen.new.world in
    let (lines, happens, says) = c.in_ok-printed.ensures.shown in
    let at : mixed_reach c.args.event ≡ reach.At c.in-At.host = sym c.reach_of-reach.ensures ∙ c.in-At.is in
    subst (λ (texts : List (List ℕ)). AreOthers (at_host seat_place c.in-At.host) seat_member texts new.seats)
    (sym c.requires.known.programs)
    (mixed_others own c.args.event c.in-At.host c.args.world.now happens.outcome new at happens.goes_on
    happens.gives).programs

pub change_one-requires-clause-services : goal.change_one-requires-clause-services
change_one-requires-clause-services g c =
    let own : Calls g.row.C.Denot = g.C.Carrier.calls in
    let new : WorldState g.row.C.Denot = c.happen.new.world in
    let (lines, happens, says) = c.in_ok-printed.ensures.shown in
    let at : mixed_reach c.args.event ≡ reach.At c.in-At.host = sym c.reach_of-reach.ensures ∙ c.in-At.is in
    subst
    (λ (texts : List (List ℕ)). AreOthers (at_host service_place c.in-At.host) services_member texts new.services)
    (sym c.requires.known.services)
    (mixed_others own c.args.event c.in-At.host c.args.world.now happens.outcome new at happens.goes_on
    happens.gives).services
