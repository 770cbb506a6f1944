-- The hosts of a world as each call of them leaves them: each is there once, and its services are in the place of its seat.
use Rattle.net_sim.proofs.Common.{◌≡◌, ℕ, Bool, true, false, List, [], ◌∷◌, ◌++◌, drop, length, take, slice_set, Option, Ok, Err, refl, ap, sym, subst, ◌∙◌, take-append_seam, Host, same_host, Crossing, IsOnce, hosts_of, hosts_served, emptied_in_order, turned_in_order, Sits, NcpState, WorldFault, Seat, ServiceSeat, opening_seats, opening_services, seated, with_program}
use Rattle.std.proofs.Common.{MatchResult, Result, reverse, slice_index_or}
use Rattle.std.proofs.Math.Seq.{map-set_same}
use Rattle.interface.specs.declared.crossing.Crossing.TheVariants as crossing
use Rattle.net_sim.specs.Inside.Parts.{AreHosts, HostsState, IsAway, IsUpAt}
use Rattle.net_sim.specs.World.{all_emptied, all_turned}
use Rattle.net_sim.proofs.Books.InOrder.{emptied_reversed, turned_reversed}
use Rattle.net_sim.proofs.Hosts.Asks.{opening_served, same_order}
use Rattle.net_sim.proofs.Hosts.Serving.{serves}

-- ---- what a call at one place leaves

seat_at : (at : ℕ) (seats : List Seat) (all : List ServiceSeat) (s d : Seat) → AreHosts seats all
    → s.host ≡ d.host → d ≡ slice_index_or seats at d → AreHosts (slice_set seats at s) all
seat_at at seats all s d are mine was =
    let same : hosts_of (slice_set seats at s) ≡ hosts_of seats =
    map-set_same (λ (x : Seat). x.host) seats at s d (mine ∙ ap (λ (x : Seat). x.host) was) in
    record { once = subst IsOnce (sym same) are.once; order = are.order ∙ sym same }

pub kept_at : (at : ℕ) (seats : List Seat) (all : List ServiceSeat) (s d : Seat) (y e : ServiceSeat) → AreHosts seats all
    → s.host ≡ d.host → d ≡ slice_index_or seats at d → y.host ≡ e.host → e ≡ slice_index_or all at e
    → AreHosts (slice_set seats at s) (slice_set all at y)
kept_at at seats all s d y e are mine was its had =
    let moved : AreHosts (slice_set seats at s) all = seat_at at seats all s d are mine was in
    record {
      once = moved.once;
      order = map-set_same (λ (x : ServiceSeat). x.host) all at y e (its ∙ ap (λ (x : ServiceSeat). x.host) had) ∙ moved.order;
    }

-- a program was taken out of its seat, and put back
pub put_at : (at : ℕ) (seats : List Seat) (all : List ServiceSeat) (s d t u : Seat) (y e : ServiceSeat) → AreHosts seats all
    → s.host ≡ d.host → d ≡ slice_index_or seats at d → t.host ≡ u.host → u ≡ slice_index_or (slice_set seats at s) at u
    → y.host ≡ e.host → e ≡ slice_index_or all at e → AreHosts (slice_set (slice_set seats at s) at t) (slice_set all at y)
put_at at seats all s d t u y e are mine was back is its had =
    seat_at at (slice_set seats at s) (slice_set all at y) t u (kept_at at seats all s d y e are mine was its had) back is

-- ---- what is at one place

pub up_served : (h : Host) (hosts : HostsState) (r : Result ℕ WorldFault) → AreHosts hosts.seats hosts.services
    → MatchResult r (λ at. (s : NcpState) × Sits h at s hosts.seats) (λ f. IsAway h f hosts.seats)
    → MatchResult r (λ at. IsUpAt h at hosts) (λ f. IsAway h f hosts.seats)
up_served h hosts (Ok at) are found =
    (found.0, (found.1, serves h at found.0 hosts.seats hosts.services are.once are.order found.1))
up_served h hosts (Err f) are found = found

-- ---- what crossings leave

seated_order : (h : Host) (p : Option NcpState) (seats : List Seat) → hosts_of (seated h p seats) ≡ hosts_of seats
seated_order h p [] = refl
seated_order h p (s ∷ seats) = by (seated_order h p seats) (same_host h s.host) where
  by : hosts_of (seated h p seats) ≡ hosts_of seats → (b : Bool)
      → ◌≡◌ {A = List Host} ((with_program b p s).host ∷ hosts_of (seated h p seats)) (s.host ∷ hosts_of seats)
  by rest true = ap (λ (hs : List Host). s.host ∷ hs) rest
  by rest false = ap (λ (hs : List Host). s.host ∷ hs) rest

turned_order : (cs : List Crossing) (seats : List Seat) → hosts_of (all_turned cs seats) ≡ hosts_of seats
turned_order [] seats = refl
turned_order (crossing.Down h ∷ cs) seats = seated_order h _ (all_turned cs seats) ∙ turned_order cs seats
turned_order (crossing.Up h ∷ cs) seats = seated_order h _ (all_turned cs seats) ∙ turned_order cs seats
turned_order (c ∷ cs) seats = turned_order cs seats

emptied_order : (cs : List Crossing) (all : List ServiceSeat) → hosts_served (all_emptied cs all) ≡ hosts_served all
emptied_order [] all = refl
emptied_order (crossing.Down h ∷ cs) all = same_order h _ (all_emptied cs all) ∙ emptied_order cs all
emptied_order (c ∷ cs) all = emptied_order cs all

-- what is written back of all seats and services, where the crossings are oldest first
pub seats_back : (len : ℕ) (news : List Crossing) (seats new : List Seat) → len ≡ length new → new ≡ turned_in_order news seats
    → take len (new ++ drop (length new) seats) ≡ all_turned (reverse news) seats
seats_back len news seats new long is =
    ap (λ (n : ℕ). take n (new ++ drop (length new) seats)) long ∙ take-append_seam new (drop (length new) seats) ∙ is
    ∙ turned_reversed news seats

pub services_back : (len : ℕ) (news : List Crossing) (all new : List ServiceSeat) → len ≡ length new → new ≡ emptied_in_order news all
    → take len (new ++ drop (length new) all) ≡ all_emptied (reverse news) all
services_back len news all new long is =
    ap (λ (n : ℕ). take n (new ++ drop (length new) all)) long ∙ take-append_seam new (drop (length new) all) ∙ is
    ∙ emptied_reversed news all

pub turned_hosts : (cs : List Crossing) (seats new : List Seat) (all after : List ServiceSeat) → AreHosts seats all
    → new ≡ all_turned cs seats → after ≡ all_emptied cs all → AreHosts new after
turned_hosts cs seats new all after are turned emptied =
    let same : hosts_of new ≡ hosts_of seats = ap (λ (s : List Seat). hosts_of s) turned ∙ turned_order cs seats in
    record {
      once = subst IsOnce (sym same) are.once;
      order = ap (λ (a : List ServiceSeat). hosts_served a) emptied ∙ emptied_order cs all ∙ are.order ∙ sym same;
    }

-- ---- hosts that have just come up

seats_opened : (hosts : List Host) → hosts_of (opening_seats hosts) ≡ hosts
seats_opened [] = refl
seats_opened (h ∷ hosts) = ap (λ (hs : List Host). h ∷ hs) (seats_opened hosts)

pub opened : (hosts : List Host) → IsOnce hosts → AreHosts (opening_seats hosts) (opening_services hosts)
opened hosts once = record {
  once = subst IsOnce (sym (seats_opened hosts)) once;
  order = (opening_served hosts).order ∙ sym (seats_opened hosts);
}
