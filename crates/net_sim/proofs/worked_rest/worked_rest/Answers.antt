use Rattle.net_sim.proofs.Common.{◌≡◌, true, false, [], ◌∷◌, Option, Some, None, Ok, Err, IfSome, ap, refl, sym, subst, ◌∙◌, Seen, RefusesOffer, RestsBeside, CarrierFault, HostMessage, NcpState, opening_state, first, second, QuietEnds, WorldFault, stops}
use Rattle.std.proofs.Common.{Result}
use Rattle.interface.specs.declared.carrier.CarrierFault.TheVariants as fault
use Rattle.host_services.specs.Turns as turns
use Rattle.sockets.specs.Requests.{served, served_notices}
use Rattle.sockets.specs.Sending.{next_out}
use Rattle.sockets.specs.declared.request.Request.TheVariants as request
use Rattle.net_sim.specs.Worked.{accepting_carrier, any_carrier, busy, fresh, giving_carrier}
use Rattle.net_sim.proofs.Hosts.Mute.{all_mute}
use Rattle.net_sim.proofs.Hosts.Resting.{rests_by}
use Rattle.net_sim.proofs.Hosts.Unresting.{given_moves, taken_moves}
use Rattle.net_sim.proofs.worked_rest.worked_rest.Goals as goal

-- a carrier of which no more is known may rest, and may refuse each message
may_rest : (s : Seen) → s.stopped ≡ false → RestsBeside any_carrier.rounds any_carrier.takes [] s
may_rest s running = record { round = record { running = running; shown = refl }; takings = λ h other. record { answer = Ok None; nothing = tt; unchanged = record { running = running; shown = refl } } }

may_refuse : (o : Option HostMessage) → IfSome o (λ m. RefusesOffer any_carrier.offers fresh.carrier m)
may_refuse None = tt
may_refuse (Some m) = record { fault = fault.NoRoom; lasts = (refl, refl); unchanged = record { when_stopped = refl; shown = refl } }

pub returns-clause-silent : goal.returns-clause-silent
returns-clause-silent c =
    rests_by accepting_carrier fresh refl (may_rest fresh.carrier refl) (λ h seat found. refl)
    (λ at below seat found s is. subst (λ (o : Option HostMessage). IfSome o (λ m. RefusesOffer accepting_carrier.offers fresh.carrier m)) (sym (all_mute (first ∷ second ∷ []) at seat s found is)) tt)

pub returns-clause-refused : goal.returns-clause-refused
unfolding served_notices turns.services_told
returns-clause-refused c = rests_by any_carrier busy refl (may_rest fresh.carrier refl) (λ h seat found. refl) (λ at below seat found s is. may_refuse (next_out s))

pub returns-clause-taken : goal.returns-clause-taken
unfolding served_notices turns.services_told served next_out
returns-clause-taken c rest =
    let s : NcpState = served (opening_state first) (request.Contact second) in
    taken_moves accepting_carrier first s (next_out s) busy (rest.offers first).answer refl (λ m c d answer taken. taken.0) (rest.offers first).step (rest.offers first).continues

pub returns-clause-comes : goal.returns-clause-comes
returns-clause-comes c rest =
    let t = (rest.takings first).step in
    given_moves giving_carrier first (opening_state first) t.2.0 t.1 t.0 fresh (rest.takings first).answer t.2.1 t.3 (rest.takings first).continues

pub returns-clause-spent : goal.returns-clause-spent
returns-clause-spent c rest =
    let t = rest.round.step in
    let ends : QuietEnds (Err fault.OutOfMemory) t.1 fresh rest.round.answer fresh = subst (λ (a : Result (Unit {0}) CarrierFault). QuietEnds a t.1 fresh rest.round.answer fresh) t.2.0 t.3 in
    absurd (let no : true ≡ false = sym (ap (λ (r : Result (Unit {0}) WorldFault). stops r) ends.0) ∙ rest.round.continues in cc)

pub returns-clause-halted : goal.returns-clause-halted
returns-clause-halted c rest = absurd (let no : true ≡ false = rest.running in cc)
