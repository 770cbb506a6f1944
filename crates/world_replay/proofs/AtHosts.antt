-- An event at one host leaves all others as they are, and one of a calm by which nothing crosses leaves all hosts so.
use Rattle.world_replay.proofs.Common.{Notice, ServiceDeskState, ServicesState, opening_desk, line_bits, Calls, crossing_of, Host, same_host, Crossing, all_told, asked, crossed, shown, Event, Ask, Net, Offer, Out, Quiet, Server, Take, Typed, User, WorldFault, Carrier, NoProgram, Seat, ServiceSeat, accepted, NcpState, refusal, served, served_notices, next_out, offered, NcpFault, Request, IsOfCalm}
use Rattle.std.proofs.Common.{◌≡◌, inl, inr, ℕ, zero, suc, Bool, false, List, [], ◌∷◌, Option, Some, None, Result, Ok, Err, length, refl, ap, sym, subst, ◌∙◌, arith, slice_get}
use Rattle.net_sim.specs.Steps.{AmongGives, FetchEnds, StepGives, asked_at, is_strange, strange_in}
use Rattle.net_sim.specs.World.{AskGives, AtSeat, Does, DoesOrHalts, OfferEnds, OfferGives, Passes, QuietEnds, Refuses, TurnGives, TakeEnds, TakeGives, TypeGives, WorldState, noticed, seat_of, served_at, services_of, stops, with_carrier, with_server, with_user, world_moved, EventGives, seated, serviced, changed, tended, turn_of, with_program, with_services, world_heard}
use Rattle.std.proofs.lemmas.List.{length-map}
use Rattle.host_services.specs.Turns as services
use Rattle.interface.specs.declared.CarrierFault.{CarrierFault}
use Rattle.interface.specs.declared.CarrierFault.TheVariants as fault
use Rattle.interface.specs.declared.HostMessage.{HostMessage}
use Rattle.interface.specs.declared.Inbound.{Inbound}
use Rattle.interface.specs.declared.crossing.Crossing.TheVariants as crossing
use Rattle.interface.specs.declared.crossing.Inbound.TheVariants as inbound
use Rattle.sockets.specs.declared.request.Request.TheVariants as request
use Rattle.world_replay.specs.Apart.{IsAt, OthersStay, SameHosts}
use Rattle.world_replay.proofs.Driven.{moved_log, turn_runs}
use Rattle.world_replay.proofs.Grown.{at_seat}
use Rattle.world_replay.proofs.Steady.{halts_stop, on_either}

abbrev Answer : Type 0
Answer = Result (Unit {0}) WorldFault

-- ---- other hosts

some_is : {X : Type 0} {x y : X} → Some x ≡ Some y → x ≡ y
some_is e = cc

seated_elsewhere : (h : Host) (program : Option NcpState) (seats : List Seat) (i : ℕ) (s : Seat) → slice_get seats i ≡ Some s → same_host h s.host ≡ false → slice_get (seated h program seats) i ≡ Some s
seated_elsewhere h program [] i s at away = at
seated_elsewhere h program (x ∷ xs) zero s at away =
    let other : same_host h x.host ≡ false = ap (λ (y : Seat). same_host h y.host) (some_is at) ∙ away in
    ap (λ (b : Bool). Some (with_program b program x)) other ∙ at
seated_elsewhere h program (x ∷ xs) (suc i) s at away = seated_elsewhere h program xs i s at away

pub serviced_elsewhere : (h : Host) (services : ServicesState) (all : List ServiceSeat) (i : ℕ) (s : ServiceSeat) → slice_get all i ≡ Some s → same_host h s.host ≡ false → slice_get (serviced h services all) i ≡ Some s
serviced_elsewhere h services [] i s at away = at
serviced_elsewhere h services (x ∷ xs) zero s at away =
    let other : same_host h x.host ≡ false = ap (λ (y : ServiceSeat). same_host h y.host) (some_is at) ∙ away in
    ap (λ (b : Bool). Some (with_services b services x)) other ∙ at
serviced_elsewhere h services (x ∷ xs) (suc i) s at away = serviced_elsewhere h services xs i s at away

pub others_same : {C : Type 0} (h : Host) (old new : WorldState C) → new.seats ≡ old.seats → new.services ≡ old.services → OthersStay h old new
others_same h old new seats services = record {
  seats = λ i s at away. ap (λ (all : List Seat). slice_get all i) seats ∙ at;
  services = λ i s at away. ap (λ (all : List ServiceSeat). slice_get all i) services ∙ at;
  as_many_seats = ap (λ (all : List Seat). length all) seats;
  as_many_services = ap (λ (all : List ServiceSeat). length all) services;
}

others_tended : {C : Type 0} (h : Host) (t : ServicesState × ServiceDeskState) (old w : WorldState C) → w.seats ≡ old.seats → w.services ≡ old.services → OthersStay h old (tended h t w)
others_tended h t old w seats services = record {
  seats = λ i s at away. seated_elsewhere h (Some t.1.program) w.seats i s (ap (λ (all : List Seat). slice_get all i) seats ∙ at) away;
  services = λ i s at away. serviced_elsewhere h t.0 w.services i s (ap (λ (all : List ServiceSeat). slice_get all i) services ∙ at) away;
  as_many_seats = length-map w.seats _ ∙ ap (λ (all : List Seat). length all) seats;
  as_many_services = length-map w.services _ ∙ ap (λ (all : List ServiceSeat). length all) services;
}

others_heard : {C : Type 0} (h : Host) (turn : NcpState × List Notice) (old w : WorldState C) → w.seats ≡ old.seats → w.services ≡ old.services → OthersStay h old (world_heard h turn w)
others_heard h turn old w seats services = others_tended h (turn_of h (noticed w) (services_of h w.services) turn) old (record w { kept = all_told h turn.1 w.kept }) seats services

others_moved : {C : Type 0} (c : C) (h : Host) (x : Crossing) (turn : NcpState × List Notice) (old : WorldState C) → OthersStay h old (world_moved c h x turn old)
others_moved c h x turn old = others_heard h turn old (record old { carrier = c; kept = crossed x old.kept }) refl refl

pub others_served : {C : Type 0} (h : Host) (q : Request) (s : NcpState) (old : WorldState C) → OthersStay h old (served_at h q s old)
others_served h q s old = others_heard h (served s q, served_notices s q) old (record old { kept = asked h q old.kept }) refl refl

others_done : {C : Type 0} (h : Host) (old done : WorldState C) (r : Answer) (new : WorldState C) → OthersStay h old done → Does done r new → OthersStay h old new
others_done {C} h old done r new stay d = subst (λ (w : WorldState C). OthersStay h old w) (sym d.1) stay

others_unchanged : {C : Type 0} (h : Host) (old new : WorldState C) → new ≡ old → OthersStay h old new
others_unchanged {C} h old new same = others_same h old new (ap (λ (w : WorldState C). w.seats) same) (ap (λ (w : WorldState C). w.services) same)

others_passed : {C : Type 0} (h : Host) (f : CarrierFault) (c : C) (old : WorldState C) (r : Answer) (new : WorldState C) → Passes f c old r new → OthersStay h old new
others_passed {C} h f c old r new p = others_same h old new (ap (λ (w : WorldState C). w.seats) p.1) (ap (λ (w : WorldState C). w.services) p.1)

module _ {C : Type 0} (calls : Calls C) where
  offer_others : (h : Host) (s : NcpState) (m : HostMessage) (answer : Result (Unit {0}) CarrierFault) (c : C) (old : WorldState C) (r : Answer) (new : WorldState C) → stops r ≡ false → OfferEnds h s m answer c old r new → OthersStay h old new
  offer_others h s m (Ok done) c old r new on ends = elim ends [
    | inl d ↦ let turn = offered s (length old.kept.book.crossings) in others_done h old (world_moved c h (crossing.Out m) turn old) r new (others_moved c h (crossing.Out m) turn old) d
    | inr x ↦ absurd (halts_stop c old r new x on)
  ]
  offer_others h s m (Err f) c old r new on ends = others_passed h f c old r new ends

  offering_others : (h : Host) (s : NcpState) (o : Option HostMessage) (old : WorldState C) (r : Answer) (new : WorldState C) → stops r ≡ false → OfferGives (shown calls) h s o old r new → OthersStay h old new
  offering_others h s None old r new on gives = others_unchanged h old new gives.1
  offering_others h s (Some m) old r new on gives = elim gives [ inl x ↦ absurd (halts_stop old.carrier old r new x on) | inr t ↦ offer_others h s m t.0 t.1 old r new on t.3 ]

  take_others : (h : Host) (s : NcpState) (answer : Result (Option Inbound) CarrierFault) (c : C) (old : WorldState C) (r : Answer) (new : WorldState C) → stops r ≡ false → TakeEnds h s answer c old r new → OthersStay h old new
  take_others h s (Ok None) c old r new on ends = others_done h old (with_carrier c old) r new (others_same h old (with_carrier c old) refl refl) ends
  take_others h s (Ok (Some i)) c old r new on ends = elim ends [
    | inl d ↦ let turn = accepted s i (length old.kept.book.crossings) in others_done h old (world_moved c h (crossing_of i) turn old) r new (others_moved c h (crossing_of i) turn old) d
    | inr x ↦ absurd (halts_stop c old r new x on)
  ]
  take_others h s (Err f) c old r new on ends = others_passed h f c old r new ends

  ask_others : (h : Host) (q : Request) (s : NcpState) (o : Option NcpFault) (old : WorldState C) (r : Answer) (new : WorldState C) → stops r ≡ false → AskGives h q s o old r new → OthersStay h old new
  ask_others h q s (Some f) old r new on gives = others_unchanged h old new gives.1
  ask_others h q s None old r new on gives = elim gives [ inl d ↦ others_done h old (served_at h q s old) r new (others_served h q s old) d | inr x ↦ absurd (halts_stop old.carrier old r new x on) ]

  type_others : (h : Host) (line : List ℕ) (s : NcpState) (o : Option ℕ) (old : WorldState C) (r : Answer) (new : WorldState C) → stops r ≡ false → TypeGives h line s o old r new → OthersStay h old new
  type_others h line s None old r new on gives = others_unchanged h old new gives.1
  type_others h line s (Some socket) old r new on gives = ask_others h (request.Send socket (line_bits line)) s (refusal s (request.Send socket (line_bits line))) old r new on gives

  begun_others : (h : Host) (t : ServicesState × ServiceDeskState) (old : WorldState C) (r : Answer) (new : WorldState C) → stops r ≡ false → DoesOrHalts (tended h t old) old r new → OthersStay h old new
  begun_others h t old r new on ends = elim ends [ inl d ↦ others_done h old (tended h t old) r new (others_tended h t old old refl refl) d | inr x ↦ absurd (halts_stop old.carrier old r new x on) ]

  host_others : (Gives : NcpState → Type 0) (g : Host) (old : WorldState C) (r : Answer) (new : WorldState C) → ((s : NcpState) → Gives s → OthersStay g old new) → AtSeat Gives (seat_of g old.seats) old r new → OthersStay g old new
  host_others Gives g old r new k t = at_seat calls Gives (OthersStay g old new) (seat_of g old.seats) old r new (λ is. others_unchanged g old new is) k t

  event_others : (g : Host) (e : Event) (old : WorldState C) (r : Answer) (new : WorldState C) → IsAt g e → stops r ≡ false → EventGives (shown calls) old e r new → OthersStay g old new
  event_others g (Net e) old r new at on t = absurd at
  event_others g Quiet old r new at on t = absurd at
  event_others g (Offer h) old r new at on t =
      subst (λ (x : Host). OthersStay x old new) at (host_others (λ s. OfferGives (shown calls) h s (next_out s) old r new) h old r new (λ s k. offering_others h s (next_out s) old r new on k) t)
  event_others g (Take h) old r new at on t =
      subst (λ (x : Host). OthersStay x old new) at (host_others (λ s. TakeGives (shown calls) h s old r new) h old r new (λ s k. take_others h s k.0 k.1 old r new on k.3) t)
  event_others g (Ask h q) old r new at on t =
      subst (λ (x : Host). OthersStay x old new) at (host_others (λ s. AskGives h q s (refusal s q) old r new) h old r new (λ s k. ask_others h q s (refusal s q) old r new on k) t)
  event_others g (Server h listen base) old r new at on t =
      subst (λ (x : Host). OthersStay x old new) at (host_others (λ s. DoesOrHalts (with_server h listen base s old) old r new) h old r new (λ s k. begun_others h (services.server_begun listen base (services_of h old.services) (opening_desk h (noticed old) s)) old r new on k) t)
  event_others g (User h peer listen own) old r new at on t =
      subst (λ (x : Host). OthersStay x old new) at (host_others (λ s. DoesOrHalts (with_user h peer listen own s old) old r new) h old r new (λ s k. begun_others h (services.user_begun peer listen own (services_of h old.services) (opening_desk h (noticed old) s)) old r new on k) t)
  event_others g (Out m) old r new at on t = absurd at
  event_others g (Typed h line) old r new at on t =
      subst (λ (x : Host). OthersStay x old new) at
      (host_others (λ s. TypeGives h line s (services_of h old.services).typing old r new) h old r new (λ s k. type_others h line s (services_of h old.services).typing old r new on k) t)

  -- an event at a host leaves all others as they were
  pub turn_others_stay : (h : Host) (e : Event) (old : WorldState C) (r : Answer) (new : WorldState C) → IsAt h e → stops r ≡ false → TurnGives (shown calls) old e r new → OthersStay h old new
  turn_others_stay h e old r new at on step = event_others h e old r new at on (turn_runs calls e old r new on step)

  -- so does what a stranger takes
  fetched_same : (h : Host) (c : C) (i : Inbound) (old : WorldState C) → OthersStay h old (changed c (crossing_of i ∷ []) old)
  fetched_same h c (inbound.Message m) old = others_same h old (changed c (crossing.In m ∷ []) old) refl refl
  fetched_same h c (inbound.Answer kind f) old = others_same h old (changed c (crossing.Answer kind f ∷ []) old) refl refl

  fetch_others : (h : Host) (answer : Result (Option Inbound) CarrierFault) (c : C) (old : WorldState C) (r : Answer) (new : WorldState C) → stops r ≡ false → FetchEnds answer c old r new → OthersStay h old new
  fetch_others h (Ok None) c old r new on ends =
      others_done h old (with_carrier c old) r new (others_same h old (with_carrier c old) refl refl) ends
  fetch_others h (Ok (Some i)) c old r new on ends = elim ends [
    | inl d ↦ others_done h old (changed c (crossing_of i ∷ []) old) r new (fetched_same h c i old) d
    | inr x ↦ absurd (halts_stop c old r new x on)
  ]
  fetch_others h (Err f) c old r new on ends = others_passed h f c old r new ends

  refused_others : (h : Host) (f : WorldFault) (old : WorldState C) (r : Answer) (new : WorldState C) → Refuses f old r new → OthersStay h old new
  refused_others h f old r new is = others_unchanged h old new is.1

  among_others : (h : Host) (e : Event) (old : WorldState C) (r : Answer) (new : WorldState C) → IsAt h e → stops r ≡ false → AmongGives (shown calls) old e r new → OthersStay h old new
  among_others h (Take g) old r new at on t =
      on_either (strange_in old g) (λ s f. fetch_others h f.0 f.1 old r new on f.3) (λ s f. event_others h (Take g) old r new at on f) t
  among_others h (Out m) old r new at on t = absurd at
  among_others h e old r new at on t =
      on_either (is_strange (strange_in old) (asked_at e)) (λ s no. refused_others h NoProgram old r new no) (λ s f. event_others h e old r new at on f) t

  pub others_stay : (h : Host) (e : Event) (old : WorldState C) (r : Answer) (new : WorldState C) → IsAt h e → stops r ≡ false → StepGives (shown calls) old e r new → OthersStay h old new
  others_stay h e old r new at on step = on_either old.stopped (λ s no. refused_others h (Carrier fault.Stopped) old r new no) (λ s f. among_others h e old r new at on f) step

  -- ---- an event of a calm by which nothing crosses

  abbrev Silent : WorldState C → WorldState C → Type 0
  Silent old new = new.kept.book.crossings ≡ old.kept.book.crossings → SameHosts old new

  unchanged_silent : (old new : WorldState C) → new ≡ old → Silent old new
  unchanged_silent old new same = λ none. record { seats = ap (λ (w : WorldState C). w.seats) same; services = ap (λ (w : WorldState C). w.services) same; kept = ap (λ (w : WorldState C). w.kept) same }

  passed_silent : (f : CarrierFault) (c : C) (old : WorldState C) (r : Answer) (new : WorldState C) → Passes f c old r new → Silent old new
  passed_silent f c old r new p = λ none. record { seats = ap (λ (w : WorldState C). w.seats) p.1; services = ap (λ (w : WorldState C). w.services) p.1; kept = ap (λ (w : WorldState C). w.kept) p.1 }

  carried_silent : (c : C) (old : WorldState C) (r : Answer) (new : WorldState C) → Does (with_carrier c old) r new → Silent old new
  carried_silent c old r new d = λ none. record { seats = ap (λ (w : WorldState C). w.seats) d.1; services = ap (λ (w : WorldState C). w.services) d.1; kept = ap (λ (w : WorldState C). w.kept) d.1 }

  -- where something crossed there is nothing to show
  moved_silent : (c : C) (h : Host) (x : Crossing) (turn : NcpState × List Notice) (old : WorldState C) (r : Answer) (new : WorldState C) → Does (world_moved c h x turn old) r new → Silent old new
  moved_silent c h x turn old r new d = λ none.
      let more : x ∷ old.kept.book.crossings ≡ old.kept.book.crossings = sym (ap (λ (w : WorldState C). w.kept.book.crossings) d.1 ∙ moved_log h x turn old c) ∙ none in
      let longer : suc (length old.kept.book.crossings) ≡ length old.kept.book.crossings = ap (λ (cs : List Crossing). length cs) more in
      absurd (omega (arith, longer))

  take_silent : (h : Host) (s : NcpState) (answer : Result (Option Inbound) CarrierFault) (c : C) (old : WorldState C) (r : Answer) (new : WorldState C) → stops r ≡ false → TakeEnds h s answer c old r new → Silent old new
  take_silent h s (Ok None) c old r new on ends = carried_silent c old r new ends
  take_silent h s (Ok (Some i)) c old r new on ends = elim ends [
    | inl d ↦ moved_silent c h (crossing_of i) (accepted s i (length old.kept.book.crossings)) old r new d
    | inr x ↦ absurd (halts_stop c old r new x on)
  ]
  take_silent h s (Err f) c old r new on ends = passed_silent f c old r new ends

  offer_silent : (h : Host) (s : NcpState) (m : HostMessage) (answer : Result (Unit {0}) CarrierFault) (c : C) (old : WorldState C) (r : Answer) (new : WorldState C) → stops r ≡ false → OfferEnds h s m answer c old r new → Silent old new
  offer_silent h s m (Ok done) c old r new on ends = elim ends [
    | inl d ↦ moved_silent c h (crossing.Out m) (offered s (length old.kept.book.crossings)) old r new d
    | inr x ↦ absurd (halts_stop c old r new x on)
  ]
  offer_silent h s m (Err f) c old r new on ends = passed_silent f c old r new ends

  offering_silent : (h : Host) (s : NcpState) (o : Option HostMessage) (old : WorldState C) (r : Answer) (new : WorldState C) → stops r ≡ false → OfferGives (shown calls) h s o old r new → Silent old new
  offering_silent h s None old r new on gives = unchanged_silent old new gives.1
  offering_silent h s (Some m) old r new on gives = elim gives [ inl x ↦ absurd (halts_stop old.carrier old r new x on) | inr t ↦ offer_silent h s m t.0 t.1 old r new on t.3 ]

  quiet_silent : (answer : Result (Unit {0}) CarrierFault) (c : C) (old : WorldState C) (r : Answer) (new : WorldState C) → QuietEnds answer c old r new → Silent old new
  quiet_silent (Ok done) c old r new ends = carried_silent c old r new ends
  quiet_silent (Err f) c old r new ends = passed_silent f c old r new ends

  event_silent : (e : Event) (old : WorldState C) (r : Answer) (new : WorldState C) → IsOfCalm e → stops r ≡ false → EventGives (shown calls) old e r new → Silent old new
  event_silent Quiet old r new is on t = quiet_silent t.0 t.1 old r new t.3
  event_silent (Take h) old r new is on t =
      at_seat calls (λ s. TakeGives (shown calls) h s old r new) (Silent old new) (seat_of h old.seats) old r new (λ same. unchanged_silent old new same) (λ s g. take_silent h s g.0 g.1 old r new on g.3) t
  event_silent (Offer h) old r new is on t =
      at_seat calls (λ s. OfferGives (shown calls) h s (next_out s) old r new) (Silent old new) (seat_of h old.seats) old r new (λ same. unchanged_silent old new same) (λ s g. offering_silent h s (next_out s) old r new on g) t
  event_silent (Net e) old r new is on t = absurd is
  event_silent (Ask h q) old r new is on t = absurd is
  event_silent (Server h listen base) old r new is on t = absurd is
  event_silent (User h peer listen own) old r new is on t = absurd is
  event_silent (Typed h line) old r new is on t = absurd is
  event_silent (Out m) old r new is on t = absurd is

  pub silent : (e : Event) (old : WorldState C) (r : Answer) (new : WorldState C) → IsOfCalm e → stops r ≡ false → TurnGives (shown calls) old e r new → Silent old new
  silent e old r new is on step = event_silent e old r new is on (turn_runs calls e old r new on step)
