use Rattle.world_replay.proofs.Common.{false≢true, with_carrier, Seat, ServiceSeat, NcpState, opening_state, first, second}
use Rattle.std.proofs.Common.{◌≡◌, ℕ, Bool, true, false, length, Option, Some, None, arith, refl, ap, is_some}
use Rattle.net_sim.specs.Worked.{fresh, down}
use Rattle.world_replay.specs.Worked.{booked}
use Rattle.host_services.specs.Services.{no_services}
use Rattle.host_services.specs.Turns as turns
use Rattle.sockets.specs.Requests.{served, served_notices}
use Rattle.sockets.specs.declared.request.Request.TheVariants as request
use Rattle.world_replay.proofs.AtHosts.{others_same, others_served, serviced_elsewhere}
use Rattle.world_replay.proofs.worked_apart.worked_others.Goals as goal

-- the IMP of a host, whether it is up, whether it has a peer, and where what is typed at it goes
imp_of : Option Seat → ℕ
imp_of None = 0
imp_of (Some s) = s.host.imp

is_up : Option Seat → Bool
is_up None = false
is_up (Some s) = is_some s.program

peers_of : Option NcpState → ℕ
peers_of None = 0
peers_of (Some s) = length s.peers

peers_at : Option Seat → ℕ
peers_at None = 0
peers_at (Some s) = peers_of s.program

service_imp : Option ServiceSeat → ℕ
service_imp None = 0
service_imp (Some s) = s.host.imp

is_typed : Option ServiceSeat → Bool
is_typed None = false
is_typed (Some s) = is_some s.services.typing

pub returns-clause-own : goal.returns-clause-own
returns-clause-own c = others_served first (request.Contact second) (opening_state first) fresh

pub returns-clause-own_services : goal.returns-clause-own_services
returns-clause-own_services c = record {
  seats = λ i s at away. at;
  services = λ i s at away. serviced_elsewhere first (record no_services { typing = Some 7 }) fresh.services i s at away;
  as_many_seats = refl;
  as_many_services = refl;
}

pub returns-clause-book : goal.returns-clause-book
returns-clause-book c = others_same first fresh (booked fresh) refl refl

pub returns-clause-carrier : goal.returns-clause-carrier
returns-clause-carrier c = others_same first fresh (with_carrier down.carrier fresh) refl refl

pub returns-clause-another : goal.returns-clause-another
unfolding served served_notices turns.services_told peers_at peers_of
returns-clause-another c = λ h.
    let same : 1 ≡ 0 = ap peers_at (h.seats 0 (record { host = first; program = Some (opening_state first) }) refl refl) in
    omega (arith, same)

pub returns-clause-another_stops : goal.returns-clause-another_stops
unfolding is_up
returns-clause-another_stops c = λ h.
    let same : false ≡ true = ap is_up (h.seats 1 (record { host = second; program = Some (opening_state second) }) refl refl) in
    false≢true same

pub returns-clause-another_services : goal.returns-clause-another_services
unfolding is_typed
returns-clause-another_services c = λ h.
    let same : true ≡ false = ap is_typed (h.services 0 (record { host = first; services = no_services }) refl refl) in
    absurd (cc)

pub returns-clause-places : goal.returns-clause-places
unfolding imp_of
returns-clause-places c = λ h.
    let same : 2 ≡ 1 = ap imp_of (h.seats 0 (record { host = first; program = Some (opening_state first) }) refl refl) in
    omega (arith, same)

pub returns-clause-service_places : goal.returns-clause-service_places
unfolding service_imp
returns-clause-service_places c = λ h.
    let same : 1 ≡ 2 = ap service_imp (h.services 1 (record { host = second; services = no_services }) refl refl) in
    omega (arith, same)

pub returns-clause-one_more : goal.returns-clause-one_more
returns-clause-one_more c = λ h. let same : 3 ≡ 2 = h.as_many_seats in omega (arith, same)

pub returns-clause-one_more_service : goal.returns-clause-one_more_service
returns-clause-one_more_service c = λ h. let same : 3 ≡ 2 = h.as_many_services in omega (arith, same)
