use Rattle.world_trace.proofs.Common.{◌≡◌, ◌∙◌, List, Option, false, ℕ, map, shown, subst, sym, Calls, Host, WorldState, seat_member, services_member}
use Rattle.net_sim.proofs.lemmas.{alone}
use Rattle.world_trace.specs.Steps.{AreOthers, at_host, is_of_network, seat_place, service_place}
use Rattle.world_trace.proofs.Stays.{event_others}
use Rattle.world_trace.proofs.traced.pass.Goals as goal

-- what is at other hosts is as before
pub change_one-requires-clause-programs : goal.change_one-requires-clause-programs
change_one-requires-clause-programs g c =
    let own : Calls g.row.C.Denot = g.C.Carrier.calls in
    let old : WorldState g.row.C.Denot = c.args.world.now in
    let w : WorldState g.row.C.Denot = c.happen.new.world in
    let (lines, happens, says) = c.in_ok-printed.ensures.shown in
    let not : is_of_network c.args.event ≡ false = sym c.is_of_network-of_network.ensures ∙ c.if-of_network.false in
    subst (λ (texts : List (List ℕ)). AreOthers (at_host seat_place c.host_at-host.result) seat_member texts w.seats) (sym c.requires.known.programs)
    (subst (λ (o : Option Host). AreOthers (at_host seat_place o) seat_member (map seat_member old.seats) w.seats) (sym c.host_at-host.ensures) (event_others own c.args.event old w happens.outcome not happens.goes_on (alone (shown own) old happens.outcome w c.strangers.ensures.none c.args.event happens.gives)).programs)

pub change_one-requires-clause-services : goal.change_one-requires-clause-services
change_one-requires-clause-services g c =
    let own : Calls g.row.C.Denot = g.C.Carrier.calls in
    let old : WorldState g.row.C.Denot = c.args.world.now in
    let w : WorldState g.row.C.Denot = c.happen.new.world in
    let (lines, happens, says) = c.in_ok-printed.ensures.shown in
    let not : is_of_network c.args.event ≡ false = sym c.is_of_network-of_network.ensures ∙ c.if-of_network.false in
    subst (λ (texts : List (List ℕ)). AreOthers (at_host service_place c.host_at-host.result) services_member texts w.services) (sym c.requires.known.services)
    (subst (λ (o : Option Host). AreOthers (at_host service_place o) services_member (map services_member old.services) w.services) (sym c.host_at-host.ensures) (event_others own c.args.event old w happens.outcome not happens.goes_on (alone (shown own) old happens.outcome w c.strangers.ensures.none c.args.event happens.gives)).services)
