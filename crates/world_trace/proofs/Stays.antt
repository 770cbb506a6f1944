-- What an event leaves as it was.
use Rattle.world_trace.proofs.Common.{false≢true, Host, same_host, Crossing, Notice, ServiceDeskState, ServicesState, opening_desk, line_bits, all_told, asked, crossed, shown, Event, WorldFault, Seat, ServiceSeat, accepted, NcpState, refusal, served, served_notices, next_out, offered, NcpFault, Request, seat_member, services_member, CalmEvent, AllParts}
use Rattle.std.proofs.Common.{◌≡◌, inl, inr, ℕ, suc, ◌≤◌, Bool, true, false, ◌||◌, List, [], ◌∷◌, length, map, Option, Some, None, Result, Ok, Err, arith, ap, refl, sym, subst, ◌∙◌}
use Rattle.interface.specs.Calls.{Calls, crossing_of, is_halt, is_memory}
use Rattle.net_sim.specs.World.{AskGives, AtSeat, DoesOrHalts, Halts, OfferEnds, OfferGives, QuietEnds, TurnGives, TakeEnds, TakeGives, TypeGives, WorldState, noticed, seat_of, seated, serviced, services_of, stops, tended, with_program, with_server, with_services, with_user, world_heard, world_moved, EventGives, turn_of}
use Rattle.net_sim.specs.declared.event.Event.TheVariants.{Ask, Offer, Out, Quiet, Server, Take, Typed, User, Net}
use Rattle.world_replay.specs.Replay.{HappensInCalm}
use Rattle.world_trace.specs.Steps.{AreOthers, IsAsBefore, IsStill, at_host, event_of, is_of_network, seat_place, service_place, at_one, host_of}
use Rattle.interface.specs.declared.carrier.CarrierFault.{CarrierFault}
use Rattle.interface.specs.declared.crossing.Crossing.TheVariants as crossing
use Rattle.interface.specs.declared.crossing.Inbound.{Inbound}
use Rattle.interface.specs.declared.message.HostMessage.{HostMessage}
use Rattle.host_services.specs.Turns as services
use Rattle.net_sim.proofs.lemmas.{memory_stops}
use Rattle.sockets.specs.declared.request.Request.TheVariants as request
use Rattle.world_replay.proofs.lemmas.Driven.{turn_runs}
use Rattle.world_replay.proofs.lemmas.{at_seat, if_stopped, one_crossed}
use Rattle.world_replay.specs.Output.{Shown}
use Rattle.world_trace.specs.declared.calm.CalmEvent.TheVariants as calm

abbrev Answer : Type 0
Answer = Result (Unit {0}) WorldFault

first_false : (a b : Bool) → (a || b) ≡ false → a ≡ false
first_false true b is = absurd (false≢true (sym is))
first_false false b is = refl

-- ---- what is at other hosts

-- all are as before
pub none_other : {T : Type 0} (may : T → Bool) (text : T → List ℕ) (items : List T) → AreOthers may text (map text items) items
none_other may text [] = tt
none_other may text (x ∷ items) = (λ e. refl, none_other may text items)

program_placed : (b : Bool) (program : Option NcpState) (s : Seat) → (with_program b program s).host ≡ s.host
program_placed true program s = refl
program_placed false program s = refl

services_placed : (b : Bool) (services : ServicesState) (s : ServiceSeat) → (with_services b services s).host ≡ s.host
services_placed true services s = refl
services_placed false services s = refl

seat_kept : (h : Host) (program : Option NcpState) (s : Seat) (b : Bool) → same_host h s.host ≡ b → same_host h (with_program (same_host h s.host) program s).host ≡ false → seat_member (with_program (same_host h s.host) program s) ≡ seat_member s
seat_kept h program s true is not = absurd (false≢true (sym not ∙ ap (same_host h) (program_placed (same_host h s.host) program s) ∙ is))
seat_kept h program s false is not = ap (λ (b : Bool). seat_member (with_program b program s)) is

others_seated : (h : Host) (program : Option NcpState) (seats : List Seat) → AreOthers (at_host seat_place (Some h)) seat_member (map seat_member seats) (seated h program seats)
others_seated h program [] = tt
others_seated h program (s ∷ seats) = (λ not. seat_kept h program s (same_host h s.host) refl not, others_seated h program seats)

service_kept : (h : Host) (services : ServicesState) (s : ServiceSeat) (b : Bool) → same_host h s.host ≡ b → same_host h (with_services (same_host h s.host) services s).host ≡ false → services_member (with_services (same_host h s.host) services s) ≡ services_member s
service_kept h services s true is not = absurd (false≢true (sym not ∙ ap (same_host h) (services_placed (same_host h s.host) services s) ∙ is))
service_kept h services s false is not = ap (λ (b : Bool). services_member (with_services b services s)) is

others_serviced : (h : Host) (services : ServicesState) (all : List ServiceSeat) → AreOthers (at_host service_place (Some h)) services_member (map services_member all) (serviced h services all)
others_serviced h services [] = tt
others_serviced h services (s ∷ all) = (λ not. service_kept h services s (same_host h s.host) refl not, others_serviced h services all)

-- ---- the ways of an event of a calm

module _ {C : Type 0} (own : Calls C) where
  -- nothing crossed
  abbrev NoneCrossed : WorldState C → WorldState C → Type 0
  NoneCrossed old new = length new.kept.book.crossings ≤ length old.kept.book.crossings

  pub halts_not : (G : Type 0) (c : C) (old new : WorldState C) (r : Answer) → stops r ≡ false → Halts c old r new → G
  halts_not G c old new r on h = absurd (false≢true (sym on ∙ ap stops h.answer ∙ memory_stops h.fault h.memory))

  -- only the carrier is another, and whether the world has stopped
  abbrev Carried : C → WorldState C → WorldState C → Type 0
  Carried c old new = (b : Bool) × (new ≡ record old { carrier = c; stopped = b })

  abbrev Moved : Host → WorldState C → WorldState C → Type 0
  Moved h old new = (c : C) × (x : Crossing) × (turn : NcpState × List Notice) × (new ≡ world_moved c h x turn old)

  take_end : (G : Type 0) (h : Host) (s : NcpState) (answer : Result (Option Inbound) CarrierFault) (c : C) (old new : WorldState C) (r : Answer) → ((n : C) → own.takes old.carrier h (Ok None) n → Carried n old new → G)
      → ((n : C) (f : CarrierFault) → is_memory f ≡ false → own.takes old.carrier h (Err f) n → Carried n old new → G) → (Moved h old new → G) → (shown own).takes old.carrier h answer c → stops r ≡ false → TakeEnds h s answer c old r new → G
  take_end G h s (Ok None) c old new r nothing refused moved took on ends = nothing c took.0 (old.stopped, ends.1)
  take_end G h s (Ok (Some i)) c old new r nothing refused moved took on ends = elim ends [ inl d ↦ moved (c, crossing_of i, accepted s i (length old.kept.book.crossings), d.1) | inr x ↦ halts_not G c old new r on x ]
  take_end G h s (Err f) c old new r nothing refused moved took on ends = refused c f (first_false (is_memory f) (is_halt f) (sym (ap stops ends.0) ∙ on)) took.0 (is_memory f, ends.1)

  take_ways : (G : Type 0) (h : Host) (old new : WorldState C) (r : Answer) → (new ≡ old → G) → ((n : C) → own.takes old.carrier h (Ok None) n → Carried n old new → G)
      → ((n : C) (f : CarrierFault) → is_memory f ≡ false → own.takes old.carrier h (Err f) n → Carried n old new → G) → (Moved h old new → G) → TurnGives (shown own) old (Take h) r new → stops r ≡ false → G
  take_ways G h old new r same nothing refused moved step on =
      if_stopped (shown own) (EventGives (shown own) old (Take h) r new) G old r new old.stopped same (λ g.
      at_seat (shown own) (λ s. TakeGives (shown own) h s old r new) G (seat_of h old.seats) old r new same (λ s t. take_end G h s t.0 t.1 old new r nothing refused moved t.2 on t.3) g) step

  offer_end : (G : Type 0) (h : Host) (s : NcpState) (m : HostMessage) (answer : Result (Unit {0}) CarrierFault) (c : C) (old new : WorldState C) (r : Answer)
      → ((n : C) (f : CarrierFault) → is_memory f ≡ false → own.offers old.carrier m (Err f) n → Carried n old new → G) → (Moved h old new → G) → (shown own).offers old.carrier m answer c → stops r ≡ false → OfferEnds h s m answer c old r new → G
  offer_end G h s m (Ok done) c old new r refused moved sent on ends = elim ends [ inl d ↦ moved (c, crossing.Out m, offered s (length old.kept.book.crossings), d.1) | inr x ↦ halts_not G c old new r on x ]
  offer_end G h s m (Err f) c old new r refused moved sent on ends = refused c f (first_false (is_memory f) (is_halt f) (sym (ap stops ends.0) ∙ on)) sent.0 (is_memory f, ends.1)

  offer_gives : (G : Type 0) (h : Host) (s : NcpState) (o : Option HostMessage) (old new : WorldState C) (r : Answer) → (new ≡ old → G)
      → ((m : HostMessage) (n : C) (f : CarrierFault) → is_memory f ≡ false → own.offers old.carrier m (Err f) n → Carried n old new → G) → (Moved h old new → G) → stops r ≡ false → OfferGives (shown own) h s o old r new → G
  offer_gives G h s None old new r same refused moved on gives = same gives.1
  offer_gives G h s (Some m) old new r same refused moved on gives = elim gives [ inl x ↦ halts_not G old.carrier old new r on x | inr t ↦ offer_end G h s m t.0 t.1 old new r (refused m) moved t.2 on t.3 ]

  offer_ways : (G : Type 0) (h : Host) (old new : WorldState C) (r : Answer) → (new ≡ old → G)
      → ((m : HostMessage) (n : C) (f : CarrierFault) → is_memory f ≡ false → own.offers old.carrier m (Err f) n → Carried n old new → G) → (Moved h old new → G) → TurnGives (shown own) old (Offer h) r new → stops r ≡ false → G
  offer_ways G h old new r same refused moved step on =
      if_stopped (shown own) (EventGives (shown own) old (Offer h) r new) G old r new old.stopped same (λ g.
      at_seat (shown own) (λ s. OfferGives (shown own) h s (next_out s) old r new) G (seat_of h old.seats) old r new same (λ s t. offer_gives G h s (next_out s) old new r same refused moved on t) g) step

  quiet_end : (G : Type 0) (answer : Result (Unit {0}) CarrierFault) (c : C) (old new : WorldState C) (r : Answer) → (Carried c old new → G) → QuietEnds answer c old r new → G
  quiet_end G (Ok done) c old new r carried ends = carried (old.stopped, ends.1)
  quiet_end G (Err f) c old new r carried ends = carried (is_memory f, ends.1)

  quiet_ways : (G : Type 0) (old new : WorldState C) (r : Answer) → (new ≡ old → G) → ((n : C) → Carried n old new → G) → TurnGives (shown own) old Quiet r new → G
  quiet_ways G old new r same carried step =
      if_stopped (shown own) (EventGives (shown own) old Quiet r new) G old r new old.stopped same (λ t. quiet_end G t.0 t.1 old new r (carried t.1) t.3) step

  -- ---- what it leaves

  -- programs, services and the book are as before
  pub record IsQuiet (old new : WorldState C) : Type 0 where
    pub seats : new.seats ≡ old.seats
    pub services : new.services ≡ old.services
    pub kept : new.kept ≡ old.kept

  same_quiet : (old new : WorldState C) → new ≡ old → IsQuiet old new
  same_quiet old new is = record { seats = ap (λ (w : WorldState C). w.seats) is; services = ap (λ (w : WorldState C). w.services) is; kept = ap (λ (w : WorldState C). w.kept) is }

  carried_quiet : (c : C) (old new : WorldState C) → Carried c old new → IsQuiet old new
  carried_quiet c old new k = record { seats = ap (λ (w : WorldState C). w.seats) k.1; services = ap (λ (w : WorldState C). w.services) k.1; kept = ap (λ (w : WorldState C). w.kept) k.1 }

  moves_not : (G : Type 0) (h : Host) (old new : WorldState C) → NoneCrossed old new → Moved h old new → G
  moves_not G h old new few (c, x, turn, is) =
      let done = turn_of h (noticed old) (services_of h old.services) turn in
      let more : length new.kept.book.crossings ≡ suc (length old.kept.book.crossings) = ap (λ (w : WorldState C). length w.kept.book.crossings) is ∙ one_crossed h done.1 turn.1 x old.kept in
      absurd (omega (arith, few, more))

  -- nothing crossed by it
  pub quiet_by : (e : CalmEvent) (old new : WorldState C) (lines : List Shown) → HappensInCalm (shown own) old (event_of e) new lines → NoneCrossed old new → IsQuiet old new
  quiet_by calm.Quiet old new lines k few = quiet_ways (IsQuiet old new) old new k.outcome (same_quiet old new) (λ n c. carried_quiet n old new c) k.gives
  quiet_by (calm.Take h) old new lines k few =
      take_ways (IsQuiet old new) h old new k.outcome (same_quiet old new) (λ n t c. carried_quiet n old new c) (λ n f m t c. carried_quiet n old new c) (moves_not (IsQuiet old new) h old new few) k.gives k.goes_on
  quiet_by (calm.Offer h) old new lines k few =
      offer_ways (IsQuiet old new) h old new k.outcome (same_quiet old new) (λ m n f s t c. carried_quiet n old new c) (moves_not (IsQuiet old new) h old new few) k.gives k.goes_on

  -- what is at other hosts is as before
  pub record AtOthers (o : Option Host) (old new : WorldState C) : Type 0 where
    pub programs : AreOthers (at_host seat_place o) seat_member (map seat_member old.seats) new.seats
    pub services : AreOthers (at_host service_place o) services_member (map services_member old.services) new.services

  pub hosts_same : (o : Option Host) (old new : WorldState C) → new.seats ≡ old.seats → new.services ≡ old.services → AtOthers o old new
  hosts_same o old new seats services = record {
    programs = subst (λ (all : List Seat). AreOthers (at_host seat_place o) seat_member (map seat_member old.seats) all) (sym seats) (none_other (at_host seat_place o) seat_member old.seats);
    services = subst (λ (all : List ServiceSeat). AreOthers (at_host service_place o) services_member (map services_member old.services) all) (sym services) (none_other (at_host service_place o) services_member old.services);
  }

  pub same_others : (o : Option Host) (old new : WorldState C) → new ≡ old → AtOthers o old new
  same_others o old new is = hosts_same o old new (ap (λ (w : WorldState C). w.seats) is) (ap (λ (w : WorldState C). w.services) is)

  carried_others : (o : Option Host) (c : C) (old new : WorldState C) → Carried c old new → AtOthers o old new
  carried_others o c old new k = hosts_same o old new (ap (λ (w : WorldState C). w.seats) k.1) (ap (λ (w : WorldState C). w.services) k.1)

  -- the services of a host had their turns, in a world with these programs and services
  tended_others : (h : Host) (t : ServicesState × ServiceDeskState) (old w new : WorldState C) → w.seats ≡ old.seats → w.services ≡ old.services → new ≡ tended h t w → AtOthers (Some h) old new
  tended_others h t old w new seats services is = record {
    programs = subst (λ (all : List Seat). AreOthers (at_host seat_place (Some h)) seat_member (map seat_member old.seats) all)
        (sym (ap (λ (x : WorldState C). x.seats) is ∙ ap (seated h (Some t.1.program)) seats)) (others_seated h (Some t.1.program) old.seats);
    services = subst (λ (all : List ServiceSeat). AreOthers (at_host service_place (Some h)) services_member (map services_member old.services) all)
        (sym (ap (λ (x : WorldState C). x.services) is ∙ ap (serviced h t.0) services)) (others_serviced h t.0 old.services);
  }

  heard_others : (h : Host) (turn : NcpState × List Notice) (old w new : WorldState C) → w.seats ≡ old.seats → w.services ≡ old.services → new ≡ world_heard h turn w → AtOthers (Some h) old new
  heard_others h turn old w new seats services is = tended_others h (turn_of h (noticed w) (services_of h w.services) turn) old (record w { kept = all_told h turn.1 w.kept }) new seats services is

  moved_others : (h : Host) (old new : WorldState C) → Moved h old new → AtOthers (Some h) old new
  moved_others h old new (c, x, turn, is) = heard_others h turn old (record old { carrier = c; kept = crossed x old.kept }) new refl refl is

  ask_others : (h : Host) (q : Request) (s : NcpState) (o : Option NcpFault) (old new : WorldState C) (r : Answer) → stops r ≡ false → AskGives h q s o old r new → AtOthers (Some h) old new
  ask_others h q s (Some f) old new r on gives = same_others (Some h) old new gives.1
  ask_others h q s None old new r on gives = elim gives [
    | inl d ↦ heard_others h (served s q, served_notices s q) old (record old { kept = asked h q old.kept }) new refl refl d.1
    | inr x ↦ halts_not (AtOthers (Some h) old new) old.carrier old new r on x
  ]

  type_others : (h : Host) (line : List ℕ) (s : NcpState) (o : Option ℕ) (old new : WorldState C) (r : Answer) → stops r ≡ false → TypeGives h line s o old r new → AtOthers (Some h) old new
  type_others h line s None old new r on gives = same_others (Some h) old new gives.1
  type_others h line s (Some socket) old new r on gives = ask_others h (request.Send socket (line_bits line)) s (refusal s (request.Send socket (line_bits line))) old new r on gives

  begun_others : (h : Host) (t : ServicesState × ServiceDeskState) (old new : WorldState C) (r : Answer) → stops r ≡ false → DoesOrHalts (tended h t old) old r new → AtOthers (Some h) old new
  begun_others h t old new r on ends = elim ends [ inl d ↦ tended_others h t old old new refl refl d.1 | inr x ↦ halts_not (AtOthers (Some h) old new) old.carrier old new r on x ]

  seat_others : (h : Host) (Gives : NcpState → Type 0) (old new : WorldState C) (r : Answer) → ((s : NcpState) → Gives s → AtOthers (Some h) old new) → AtSeat Gives (seat_of h old.seats) old r new → AtOthers (Some h) old new
  seat_others h Gives old new r k t = at_seat (shown own) Gives (AtOthers (Some h) old new) (seat_of h old.seats) old r new (same_others (Some h) old new) k t

  -- any event but those of the network leaves what is at other hosts
  pub event_others : (e : Event) (old new : WorldState C) (r : Answer) → is_of_network e ≡ false → stops r ≡ false → TurnGives (shown own) old e r new → AtOthers (at_one e) old new
  event_others (Net e) old new r not on step = absurd (false≢true (sym not))
  event_others Quiet old new r not on step = quiet_ways (AtOthers None old new) old new r (same_others None old new) (λ n c. carried_others None n old new c) step
  event_others (Take h) old new r not on step =
      let o : Option Host = Some h in
      take_ways (AtOthers o old new) h old new r (same_others o old new) (λ n t c. carried_others o n old new c) (λ n f m t c. carried_others o n old new c) (moved_others h old new) step on
  event_others (Offer h) old new r not on step =
      let o : Option Host = Some h in
      offer_ways (AtOthers o old new) h old new r (same_others o old new) (λ m n f s t c. carried_others o n old new c) (moved_others h old new) step on
  event_others (Ask h q) old new r not on step =
      seat_others h (λ s. AskGives h q s (refusal s q) old r new) old new r (λ s k. ask_others h q s (refusal s q) old new r on k) (turn_runs own (Ask h q) old r new on step)
  event_others (Server h listen base) old new r not on step =
      seat_others h (λ s. DoesOrHalts (with_server h listen base s old) old r new) old new r
      (λ s k. begun_others h (services.server_begun listen base (services_of h old.services) (opening_desk h (noticed old) s)) old new r on k) (turn_runs own (Server h listen base) old r new on step)
  event_others (User h peer listen mine) old new r not on step =
      seat_others h (λ s. DoesOrHalts (with_user h peer listen mine s old) old r new) old new r
      (λ s k. begun_others h (services.user_begun peer listen mine (services_of h old.services) (opening_desk h (noticed old) s)) old new r on k) (turn_runs own (User h peer listen mine) old r new on step)
  event_others (Typed h line) old new r not on step =
      seat_others h (λ s. TypeGives h line s (services_of h old.services).typing old r new) old new r
      (λ s k. type_others h line s (services_of h old.services).typing old new r on k) (turn_runs own (Typed h line) old r new on step)
  event_others (Out m) old new r not on step = same_others None old new (turn_runs own (Out m) old r new on step).1

  pub others_by : (e : CalmEvent) (old new : WorldState C) (lines : List Shown) → HappensInCalm (shown own) old (event_of e) new lines → AtOthers (host_of e) old new
  others_by calm.Quiet old new lines k = event_others Quiet old new k.outcome refl k.goes_on k.gives
  others_by (calm.Take h) old new lines k = event_others (Take h) old new k.outcome refl k.goes_on k.gives
  others_by (calm.Offer h) old new lines k = event_others (Offer h) old new k.outcome refl k.goes_on k.gives

  -- ---- and where no part changes either

  module _ (members : C → AllParts) where
    -- what a taking and an offer that are refused leave
    abbrev pub KeepsTakes : Type 0
    KeepsTakes = (old new : C) (h : Host) (f : CarrierFault) → is_memory f ≡ false → own.takes old h (Err f) new → members new ≡ members old

    abbrev pub KeepsOffers : Type 0
    KeepsOffers = (old new : C) (m : HostMessage) (f : CarrierFault) → is_memory f ≡ false → own.offers old m (Err f) new → members new ≡ members old

    with_parts : (old new : WorldState C) → members new.carrier ≡ members old.carrier → IsQuiet old new → IsAsBefore members old new
    with_parts old new parts q = record { parts = parts; seats = q.seats; services = q.services; kept = q.kept }

    same_before : (old new : WorldState C) → new ≡ old → IsAsBefore members old new
    same_before old new is = with_parts old new (ap (λ (w : WorldState C). members w.carrier) is) (same_quiet old new is)

    carried_before : (c : C) (old new : WorldState C) → members c ≡ members old.carrier → Carried c old new → IsAsBefore members old new
    carried_before c old new same k = with_parts old new (ap (λ (w : WorldState C). members w.carrier) k.1 ∙ same) (carried_quiet c old new k)

    pub take_still : (h : Host) (old : WorldState C) → ((n : C) → own.takes old.carrier h (Ok None) n → members n ≡ members old.carrier) → KeepsTakes → IsStill (shown own) members old (Take h)
    take_still h old nothing keeps = λ new lines k few.
        take_ways (IsAsBefore members old new) h old new k.outcome (same_before old new) (λ n t c. carried_before n old new (nothing n t) c) (λ n f m t c. carried_before n old new (keeps old.carrier n h f m t) c)
        (moves_not (IsAsBefore members old new) h old new few) k.gives k.goes_on

    pub offer_still : (h : Host) (old : WorldState C) → KeepsOffers → IsStill (shown own) members old (Offer h)
    offer_still h old keeps = λ new lines k few.
        offer_ways (IsAsBefore members old new) h old new k.outcome (same_before old new) (λ m n f s t c. carried_before n old new (keeps old.carrier n m f s t) c) (moves_not (IsAsBefore members old new) h old new few) k.gives k.goes_on
