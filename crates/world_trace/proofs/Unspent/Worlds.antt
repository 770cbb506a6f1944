-- Each event of a world that has not stopped leaves memory lasting in all programs and services.
use Rattle.world_trace.proofs.Common.{false≢true, All-cons, All-head, All-nil, All-tail, All, Notice, ServiceDeskState, ServicesState, no_services, opening_desk, line_bits, Host, same_host, Crossing, all_told, asked, crossed, Event, WorldFault, Seat, ServiceSeat, accepted, NcpState, opening_state, refusal, served, served_notices, next_out, offered, NcpFault, Request, WorldEvent, Lasts, ProgramLasts, SeatLasts, ServiceLasts, ServicesLast, MatchBool}
use Rattle.std.proofs.Common.{◌≡◌, ◌⊎◌, inr, ℕ, zero, suc, Bool, true, false, List, [], ◌∷◌, if◌then◌else◌, length, nat_lt, Option, Some, None, IfSome, Result, Ok, Err, refl, ap, sym, subst, ◌∙◌, inl, find}
use Rattle.interface.specs.Calls.{Calls, crossing_of, is_halt, is_memory, Seen, step_crossings}
use Rattle.interface.proofs.lemmas.{same_host-true, or_false}
use Rattle.net_sim.specs.Steps.{AmongGives, FetchEnds, OutEnds, StepGives, asked_at, is_strange, strange_in}
use Rattle.net_sim.specs.World.{AskGives, AtSeat, DoesOrHalts, Halts, OfferEnds, OfferGives, QuietEnds, TurnGives, TakeEnds, TakeGives, TypeGives, WorldState, noticed, opening_seats, opening_services, opening_world, seat_of, seated, serviced, services_of, stops, tended, up_in, with_program, with_server, with_services, with_user, world_heard, world_moved, AtProgram, Calms, Does, EventGives, NetEnds, Passes, Refuses, Repeats, TurnsOf, all_emptied, all_turned, changed, emptied, seats_turned, served_at, services_in, turn_of, with_carrier}
use Rattle.net_sim.specs.declared.event.Event.TheVariants.{Ask, Offer, Out, Quiet, Server, Take, Typed, User, Net}
use Rattle.host_services.specs.Turns as services
use Rattle.interface.specs.declared.CarrierFault.{CarrierFault}
use Rattle.interface.specs.declared.CarrierFault.TheVariants as fault
use Rattle.interface.specs.declared.HostMessage.{HostMessage}
use Rattle.interface.specs.declared.Inbound.{Inbound}
use Rattle.interface.specs.declared.NetEvent.{NetEvent}
use Rattle.interface.specs.declared.crossing.Crossing.TheVariants as crossing
use Rattle.net_sim.specs.declared.event.WorldFault.TheVariants.{Carrier, NoProgram}
use Rattle.net_sim.proofs.lemmas.{calm_keeps, memory_stops}
use Rattle.sockets.specs.declared.request.Request.TheVariants as request
use Rattle.world_replay.specs.Output.{Shown}
use Rattle.world_replay.specs.Replay.{Happens, Replays}
use Rattle.world_replay.specs.Replay as replay
use Rattle.world_replay.proofs.lemmas.{on_either}
use Rattle.world_script.specs.declared.event.WorldEvent.TheVariants as script
use Rattle.world_trace.proofs.Unspent.Programs.{BothLast, accepted_lasts, offered_lasts, served_lasts, server_last, told_last, user_last}

abbrev Answer : Type 0
Answer = Result (Unit {0}) WorldFault

-- ---- hosts

-- the program that is put on a host is the host's
abbrev AnyLasts : Host → Option NcpState → Type 0
AnyLasts h o = IfSome o (ProgramLasts h)

seat_with : (b : Bool) (h : Host) (o : Option NcpState) (s : Seat) → same_host h s.host ≡ b → AnyLasts h o → SeatLasts s → SeatLasts (with_program b o s)
seat_with true h o s here new old = subst (λ (g : Host). AnyLasts g o) (same_host-true h s.host here) new
seat_with false h o s here new old = old

seats_with : (h : Host) (o : Option NcpState) (seats : List Seat) → AnyLasts h o → All SeatLasts seats → All SeatLasts (seated h o seats)
seats_with h o [] new all = All-nil SeatLasts
seats_with h o (s ∷ seats) new all =
    All-cons SeatLasts (with_program (same_host h s.host) o s) (seated h o seats) (seat_with (same_host h s.host) h o s refl new (All-head SeatLasts s seats all))
    (seats_with h o seats new (All-tail SeatLasts s seats all))

services_with : (h : Host) (x : ServicesState) (all : List ServiceSeat) → All ServiceLasts x.running → All ServicesLast all → All ServicesLast (serviced h x all)
services_with h x [] new last = All-nil ServicesLast
services_with h x (s ∷ all) new last =
    All-cons ServicesLast (with_services (same_host h s.host) x s) (serviced h x all) (by (same_host h s.host))
    (services_with h x all new (All-tail ServicesLast s all last))
  where
    by : (b : Bool) → ServicesLast (with_services b x s)
    by true = new
    by false = All-head ServicesLast s all last

services_at : (h : Host) (all : List ServiceSeat) → All ServicesLast all → All ServiceLasts (services_of h all).running
services_at h [] last = All-nil ServiceLasts
services_at h (s ∷ all) last = by (same_host h s.host) (services_at h all (All-tail ServicesLast s all last)) where
  by : (b : Bool) → All ServiceLasts (services_of h all).running → All ServiceLasts (services_in (if b then Some s else find (λ x. same_host h x.host) all)).running
  by true others = All-head ServicesLast s all last
  by false others = others

-- the program of a host is its own
abbrev SeatIsOwn : Host → Option Seat → Type 0
SeatIsOwn h o = IfSome o (λ s. AnyLasts h s.program)

seat_at : (h : Host) (seats : List Seat) → All SeatLasts seats → SeatIsOwn h (seat_of h seats)
seat_at h [] all = tt
seat_at h (s ∷ seats) all = by (same_host h s.host) refl (seat_at h seats (All-tail SeatLasts s seats all)) where
  by : (b : Bool) → same_host h s.host ≡ b → SeatIsOwn h (seat_of h seats) → SeatIsOwn h (if b then Some s else seat_of h seats)
  by true here others = subst (λ (g : Host). AnyLasts g s.program) (sym (same_host-true h s.host here)) (All-head SeatLasts s seats all)
  by false here others = others

-- a host that starts has a program of its own
turned_last : (c : Crossing) (seats : List Seat) → All SeatLasts seats → All SeatLasts (seats_turned c seats)
turned_last (crossing.Down h) seats all = seats_with h None seats tt all
turned_last (crossing.Up h) seats all = seats_with h (Some (opening_state h)) seats (record { own = refl; unspent = refl }) all
turned_last c seats all = all

all_turned_last : (cs : List Crossing) (seats : List Seat) → All SeatLasts seats → All SeatLasts (all_turned cs seats)
all_turned_last [] seats all = all
all_turned_last (c ∷ cs) seats all = turned_last c (all_turned cs seats) (all_turned_last cs seats all)

emptied_last : (c : Crossing) (all : List ServiceSeat) → All ServicesLast all → All ServicesLast (emptied c all)
emptied_last (crossing.Down h) all last = services_with h no_services all (All-nil ServiceLasts) last
emptied_last c all last = last

all_emptied_last : (cs : List Crossing) (all : List ServiceSeat) → All ServicesLast all → All ServicesLast (all_emptied cs all)
all_emptied_last [] all last = last
all_emptied_last (c ∷ cs) all last = emptied_last c (all_emptied cs all) (all_emptied_last cs all last)

-- ---- the opening

opening_seats_last : (hosts : List Host) → All SeatLasts (opening_seats hosts)
opening_seats_last [] = All-nil SeatLasts
opening_seats_last (h ∷ hosts) = All-cons SeatLasts (record { host = h; program = Some (opening_state h) }) (opening_seats hosts) (record { own = refl; unspent = refl }) (opening_seats_last hosts)

opening_services_last : (hosts : List Host) → All ServicesLast (opening_services hosts)
opening_services_last [] = All-nil ServicesLast
opening_services_last (h ∷ hosts) = All-cons ServicesLast (record { host = h; services = no_services }) (opening_services hosts) (All-nil ServiceLasts) (opening_services_last hosts)

pub opening_lasts : {C : Type 0} (calls : Calls C) (c : C) → Lasts (opening_world calls c)
opening_lasts calls c = record { programs = opening_seats_last (calls.seen c).hosts; services = opening_services_last (calls.seen c).hosts }

-- ---- what becomes of a world

-- a world that has not stopped, and memory lasts in it
pub record Runs {C : Type 0} (w : WorldState C) : Type 0 where
  pub on : w.stopped ≡ false
  pub last : Lasts w

-- how an event leaves a world
record Went {C : Type 0} (r : Answer) (new : WorldState C) : Type 0 where
  lasting : new.stopped ≡ false → Lasts new
  running : stops r ≡ false → new.stopped ≡ false

module _ {C : Type 0} (calls : Calls C) where
  tended_lasts : (h : Host) (t : ServicesState × ServiceDeskState) (w : WorldState C) → BothLast h t → Lasts w → Lasts (tended h t w)
  tended_lasts h t w both last = record { programs = seats_with h (Some t.1.program) w.seats both.desk last.programs; services = services_with h t.0 w.services both.services last.services }

  heard_world : (h : Host) (turn : NcpState × List Notice) (w : WorldState C) → ProgramLasts h turn.0 → Lasts w → Lasts (world_heard h turn w)
  heard_world h turn w is last =
      tended_lasts h (turn_of h (noticed w) (services_of h w.services) turn) (record w { kept = all_told h turn.1 w.kept })
      (told_last h turn.1 (services_of h w.services) (opening_desk h (noticed w) turn.0) (services_at h w.services last.services) is) (record { programs = last.programs; services = last.services })

  moved_world : (c : C) (h : Host) (x : Crossing) (turn : NcpState × List Notice) (w : WorldState C) → ProgramLasts h turn.0 → Lasts w → Lasts (world_moved c h x turn w)
  moved_world c h x turn w is last = heard_world h turn (record w { carrier = c; kept = crossed x w.kept }) is (record { programs = last.programs; services = last.services })

  served_world : (h : Host) (q : Request) (s : NcpState) (w : WorldState C) → ProgramLasts h s → Lasts w → Lasts (served_at h q s w)
  served_world h q s w is last =
      heard_world h (served s q, served_notices s q) (record w { kept = asked h q w.kept }) (served_lasts h s q is) (record { programs = last.programs; services = last.services })

  -- ---- how an event ends

  done_went : (done : WorldState C) (r : Answer) (new : WorldState C) → Does done r new → Runs done → Went r new
  done_went done r new d w = record { lasting = λ on. subst Lasts (sym d.1) w.last; running = λ well. ap (λ (x : WorldState C). x.stopped) d.1 ∙ w.on }

  unchanged : (old : WorldState C) (r : Answer) (new : WorldState C) → new ≡ old → Runs old → Went r new
  unchanged old r new is w = record { lasting = λ on. subst Lasts (sym is) w.last; running = λ well. ap (λ (x : WorldState C). x.stopped) is ∙ w.on }

  halted : (c : C) (old : WorldState C) (r : Answer) (new : WorldState C) → Halts c old r new → Went r new
  halted c old r new x = record {
    lasting = λ on. absurd (false≢true (sym on ∙ x.stopped));
    running = λ well. absurd (false≢true (sym well ∙ ap stops x.answer ∙ memory_stops x.fault x.memory));
  }

  passed : (f : CarrierFault) (c : C) (old : WorldState C) (r : Answer) (new : WorldState C) → Passes f c old r new → Runs old → Went r new
  passed f c old r new p w = record {
    lasting = λ on. subst Lasts (sym p.1) (record { programs = w.last.programs; services = w.last.services });
    running = λ well. ap (λ (x : WorldState C). x.stopped) p.1 ∙ (or_false (is_memory f) (is_halt f) (sym (ap stops p.0) ∙ well)).0;
  }

  done_or_halted : (done old : WorldState C) (r : Answer) (new : WorldState C) → DoesOrHalts done old r new → Runs done → Went r new
  done_or_halted done old r new ends w = elim ends [ inl d ↦ done_went done r new d w | inr x ↦ halted old.carrier old r new x ]

  offer_end : (h : Host) (s : NcpState) (m : HostMessage) (answer : Result (Unit {0}) CarrierFault) (c : C) (old : WorldState C) (r : Answer) (new : WorldState C) → ProgramLasts h s → OfferEnds h s m answer c old r new → Runs old → Went r new
  offer_end h s m (Ok done) c old r new is ends w = elim ends [
    | inl d ↦ let turn : NcpState × List Notice = offered s (length old.kept.book.crossings) in
        done_went (world_moved c h (crossing.Out m) turn old) r new d (record { on = w.on; last = moved_world c h (crossing.Out m) turn old (offered_lasts h s (length old.kept.book.crossings) is) w.last })
    | inr x ↦ halted c old r new x
  ]
  offer_end h s m (Err f) c old r new is ends w = passed f c old r new ends w

  offer_went : (h : Host) (s : NcpState) (o : Option HostMessage) (old : WorldState C) (r : Answer) (new : WorldState C) → ProgramLasts h s → OfferGives calls h s o old r new → Runs old → Went r new
  offer_went h s None old r new is gives w = done_went old r new gives w
  offer_went h s (Some m) old r new is gives w = elim gives [ inl x ↦ halted old.carrier old r new x | inr t ↦ offer_end h s m t.0 t.1 old r new is t.3 w ]

  -- the carrier changed, and no host
  carried : (c : C) (w : WorldState C) → Runs w → Runs (with_carrier c w)
  carried c w is = record { on = is.on; last = record { programs = is.last.programs; services = is.last.services } }

  take_end : (h : Host) (s : NcpState) (answer : Result (Option Inbound) CarrierFault) (c : C) (old : WorldState C) (r : Answer) (new : WorldState C) → ProgramLasts h s → TakeEnds h s answer c old r new → Runs old → Went r new
  take_end h s (Ok None) c old r new is ends w = done_went (with_carrier c old) r new ends (carried c old w)
  take_end h s (Ok (Some i)) c old r new is ends w = elim ends [
    | inl d ↦ let turn : NcpState × List Notice = accepted s i (length old.kept.book.crossings) in
        done_went (world_moved c h (crossing_of i) turn old) r new d (record { on = w.on; last = moved_world c h (crossing_of i) turn old (accepted_lasts h s i (length old.kept.book.crossings) is) w.last })
    | inr x ↦ halted c old r new x
  ]
  take_end h s (Err f) c old r new is ends w = passed f c old r new ends w

  net_end : (seen : Seen) (e : NetEvent) (answer : Result (Unit {0}) CarrierFault) (c : C) (old : WorldState C) (r : Answer) (new : WorldState C) → NetEnds seen e answer c old r new → Runs old → Went r new
  net_end seen e (Ok done) c old r new ends w = elim ends [
    | inl d ↦ let cs : List Crossing = step_crossings seen e in
        done_went (changed c cs old) r new d (record { on = w.on; last = record { programs = all_turned_last cs old.seats w.last.programs; services = all_emptied_last cs old.services w.last.services } })
    | inr x ↦ halted c old r new x.1
  ]
  net_end seen e (Err f) c old r new ends w = passed f c old r new ends w

  quiet_end : (answer : Result (Unit {0}) CarrierFault) (c : C) (old : WorldState C) (r : Answer) (new : WorldState C) → QuietEnds answer c old r new → Runs old → Went r new
  quiet_end (Ok done) c old r new ends w = done_went (with_carrier c old) r new ends (carried c old w)
  quiet_end (Err f) c old r new ends w = passed f c old r new ends w

  ask_went : (h : Host) (q : Request) (s : NcpState) (o : Option NcpFault) (old : WorldState C) (r : Answer) (new : WorldState C) → ProgramLasts h s → AskGives h q s o old r new → Runs old → Went r new
  ask_went h q s (Some f) old r new is gives w = unchanged old r new gives.1 w
  ask_went h q s None old r new is gives w = done_or_halted (served_at h q s old) old r new gives (record { on = w.on; last = served_world h q s old is w.last })

  type_went : (h : Host) (line : List ℕ) (s : NcpState) (o : Option ℕ) (old : WorldState C) (r : Answer) (new : WorldState C) → ProgramLasts h s → TypeGives h line s o old r new → Runs old → Went r new
  type_went h line s None old r new is gives w = unchanged old r new gives.1 w
  type_went h line s (Some socket) old r new is gives w = ask_went h (request.Send socket (line_bits line)) s (refusal s (request.Send socket (line_bits line))) old r new is gives w

  -- a host that isn't there, or is down, does nothing
  at_program : (h : Host) (Gives : NcpState → Type 0) (o : Option NcpState) (old : WorldState C) (r : Answer) (new : WorldState C) → AnyLasts h o → ((s : NcpState) → ProgramLasts h s → Gives s → Went r new) → AtProgram Gives o old r new → Runs old → Went r new
  at_program h Gives None old r new is k t w = unchanged old r new t.1 w
  at_program h Gives (Some s) old r new is k t w = k s is t

  at_seat : (h : Host) (Gives : NcpState → Type 0) (o : Option Seat) (old : WorldState C) (r : Answer) (new : WorldState C) → SeatIsOwn h o → ((s : NcpState) → ProgramLasts h s → Gives s → Went r new) → AtSeat Gives o old r new → Runs old → Went r new
  at_seat h Gives None old r new is k t w = unchanged old r new t.1 w
  at_seat h Gives (Some seat) old r new is k t w = at_program h Gives seat.program old r new is k t w

  at_host : (h : Host) (Gives : NcpState → Type 0) (old : WorldState C) (r : Answer) (new : WorldState C) → ((s : NcpState) → ProgramLasts h s → Gives s → Went r new) → AtSeat Gives (seat_of h old.seats) old r new → Runs old → Went r new
  at_host h Gives old r new k t w = at_seat h Gives (seat_of h old.seats) old r new (seat_at h old.seats w.last.programs) k t w

  server_world : (h : Host) (listen base : ℕ) (s : NcpState) (old : WorldState C) → ProgramLasts h s → Lasts old → Lasts (with_server h listen base s old)
  server_world h listen base s old is last =
      tended_lasts h (services.server_begun listen base (services_of h old.services) (opening_desk h (noticed old) s)) old
      (server_last h listen base (services_of h old.services) (opening_desk h (noticed old) s) (services_at h old.services last.services) is) last

  user_world : (h peer : Host) (listen own : ℕ) (s : NcpState) (old : WorldState C) → ProgramLasts h s → Lasts old → Lasts (with_user h peer listen own s old)
  user_world h peer listen own s old is last =
      tended_lasts h (services.user_begun peer listen own (services_of h old.services) (opening_desk h (noticed old) s)) old
      (user_last h peer listen own (services_of h old.services) (opening_desk h (noticed old) s) (services_at h old.services last.services) is) last

  event_went : (e : Event) (old : WorldState C) (r : Answer) (new : WorldState C) → Runs old → EventGives calls old e r new → Went r new
  event_went (Net e) old r new w t = net_end (calls.seen old.carrier) e t.0 t.1 old r new t.3 w
  event_went Quiet old r new w t = quiet_end t.0 t.1 old r new t.3 w
  event_went (Offer h) old r new w t = at_host h (λ s. OfferGives calls h s (next_out s) old r new) old r new (λ s is g. offer_went h s (next_out s) old r new is g w) t w
  event_went (Take h) old r new w t = at_host h (λ s. TakeGives calls h s old r new) old r new (λ s is g. take_end h s g.0 g.1 old r new is g.3 w) t w
  event_went (Ask h q) old r new w t = at_host h (λ s. AskGives h q s (refusal s q) old r new) old r new (λ s is g. ask_went h q s (refusal s q) old r new is g w) t w
  event_went (Server h listen base) old r new w t =
      at_host h (λ s. DoesOrHalts (with_server h listen base s old) old r new) old r new
      (λ s is g. done_or_halted (with_server h listen base s old) old r new g (record { on = w.on; last = server_world h listen base s old is w.last })) t w
  event_went (User h peer listen own) old r new w t =
      at_host h (λ s. DoesOrHalts (with_user h peer listen own s old) old r new) old r new
      (λ s is g. done_or_halted (with_user h peer listen own s old) old r new g (record { on = w.on; last = user_world h peer listen own s old is w.last })) t w
  event_went (Typed h line) old r new w t =
      at_host h (λ s. TypeGives h line s (services_of h old.services).typing old r new) old r new (λ s is g. type_went h line s (services_of h old.services).typing old r new is g w) t w
  event_went (Out m) old r new w t = unchanged old r new t.1 w

  -- ---- strangers

  -- what a stranger sends or takes
  strange_went : (c : C) (x : Crossing) (old : WorldState C) (r : Answer) (new : WorldState C) → Does (changed c (x ∷ []) old) r new ⊎ Halts c old r new → Runs old → Went r new
  strange_went c x old r new ends w = elim ends [
    | inl d ↦ let cs : List Crossing = x ∷ [] in
        done_went (changed c cs old) r new d (record { on = w.on; last = record { programs = all_turned_last cs old.seats w.last.programs; services = all_emptied_last cs old.services w.last.services } })
    | inr h ↦ halted c old r new h
  ]

  out_went : (m : HostMessage) (answer : Result (Unit {0}) CarrierFault) (c : C) (old : WorldState C) (r : Answer) (new : WorldState C) → OutEnds m answer c old r new → Runs old → Went r new
  out_went m (Ok done) c old r new ends w = strange_went c (crossing.Out m) old r new ends w
  out_went m (Err f) c old r new ends w = passed f c old r new ends w

  fetch_went : (answer : Result (Option Inbound) CarrierFault) (c : C) (old : WorldState C) (r : Answer) (new : WorldState C) → FetchEnds answer c old r new → Runs old → Went r new
  fetch_went (Ok None) c old r new ends w = done_went (with_carrier c old) r new ends (carried c old w)
  fetch_went (Ok (Some i)) c old r new ends w = strange_went c (crossing_of i) old r new ends w
  fetch_went (Err f) c old r new ends w = passed f c old r new ends w

  refused_went : (f : WorldFault) (old : WorldState C) (r : Answer) (new : WorldState C) → Refuses f old r new → Runs old → Went r new
  refused_went f old r new is w = unchanged old r new is.1 w

  among_went : (e : Event) (old : WorldState C) (r : Answer) (new : WorldState C) → Runs old → AmongGives calls old e r new → Went r new
  among_went (Take h) old r new w t = on_either (strange_in old h) (λ s f. fetch_went f.0 f.1 old r new f.3 w) (λ s g. event_went (Take h) old r new w g) t
  among_went (Out m) old r new w t = on_either (strange_in old m.flow.source) (λ s f. out_went m f.0 f.1 old r new f.3 w) (λ s g. event_went (Out m) old r new w g) t
  among_went e old r new w t =
      on_either (is_strange (strange_in old) (asked_at e)) (λ s no. refused_went NoProgram old r new no w) (λ s g. event_went e old r new w g) t

  -- ---- any event

  -- memory lasts in a world that has not stopped
  abbrev Goes : WorldState C → Type 0
  Goes w = w.stopped ≡ false → Lasts w

  -- one event, whether or not it is refused
  turn_goes : (e : Event) (old : WorldState C) (r : Answer) (new : WorldState C) → Unit {0} → Goes old → TurnGives calls old e r new → Goes new
  turn_goes e old r new named goes step = by old.stopped refl step where
    by : (b : Bool) → old.stopped ≡ b → MatchBool b (Refuses (Carrier fault.Stopped) old r new) (EventGives calls old e r new) → Goes new
    by true is h = λ on. absurd (false≢true (sym on ∙ ap (λ (w : WorldState C). w.stopped) h.1 ∙ is))
    by false is h = (event_went e old r new (record { on = is; last = goes is }) h).lasting

  step_goes : (e : Event) (old : WorldState C) (r : Answer) (new : WorldState C) → Goes old → StepGives calls old e r new → Goes new
  step_goes e old r new goes step =
      on_either old.stopped (λ is h on. absurd (false≢true (sym on ∙ ap (λ (w : WorldState C). w.stopped) h.1 ∙ is)))
      (λ is h. (among_went e old r new (record { on = is; last = goes is }) h).lasting) step

  -- an event of a script, whatever comes of it
  pub event_lasts : (e : WorldEvent) (old : WorldState C) (r : Answer) (new : WorldState C) → Goes old → replay.EventGives calls old e r new → Goes new
  event_lasts (script.Happen e) old r new goes h = step_goes e old r new goes h
  event_lasts (script.Calm rounds) old r new goes h = calm_keeps calls Goes (λ e. Unit {0}) tt (λ h. tt) (λ h. tt) turn_goes rounds old r new goes h

  -- ---- a replay

  -- a world that has not stopped follows its events
  follows : (Gives : Type 0) (old : WorldState C) (r : Answer) (new : WorldState C) (b : Bool) → old.stopped ≡ b → Runs old → MatchBool b (Refuses (Carrier fault.Stopped) old r new) Gives → (Gives → Runs new) → Runs new
  follows Gives old r new true is w h k = absurd (false≢true (sym w.on ∙ is))
  follows Gives old r new false is w h k = k h

  went_on : (r : Answer) (new : WorldState C) → stops r ≡ false → Went r new → Runs new
  went_on r new well went = record { on = went.running well; last = went.lasting (went.running well) }

  turn_runs : (e : Event) (old : WorldState C) (r : Answer) (new : WorldState C) → stops r ≡ false → Runs old → TurnGives calls old e r new → Runs new
  turn_runs e old r new well w h = follows (EventGives calls old e r new) old r new old.stopped refl w h (λ g. went_on r new well (event_went e old r new w g))

  -- what goes well to its end goes well in its first part
  then_runs : (Rest : Type 0) (answer : Answer) (mid : WorldState C) (r : Answer) (new : WorldState C) (b : Bool) → stops answer ≡ b → stops r ≡ false → MatchBool b ((r ≡ answer) × (new ≡ mid)) Rest → (stops answer ≡ false → Rest → Runs new) → Runs new
  then_runs Rest answer mid r new true is well h k = absurd (false≢true (sym well ∙ ap stops h.0 ∙ is))
  then_runs Rest answer mid r new false is well h k = k is h

  again_runs : (Rest : Type 0) (mid : WorldState C) (r : Answer) (new : WorldState C) (b : Bool) → Runs mid → MatchBool b Rest (Does mid r new) → (Rest → Runs new) → Runs new
  again_runs Rest mid r new true w h k = k h
  again_runs Rest mid r new false w h k = subst Runs (sym h.1) w

  repeats_run : (e : Event) (times : ℕ) (old : WorldState C) (r : Answer) (new : WorldState C) → stops r ≡ false → Runs old → Repeats calls e times old r new → Runs new
  repeats_run e zero old r new well w h = subst Runs (sym h.1) w
  repeats_run e (suc times) old r new well w (answer, mid, step, rest) =
      let more : Bool = nat_lt (length old.kept.book.crossings) (length mid.kept.book.crossings) in
      then_runs (MatchBool more (Repeats calls e times mid r new) (Does mid r new)) answer mid r new (stops answer) refl well rest
      (λ on g. again_runs (Repeats calls e times mid r new) mid r new more (turn_runs e old answer mid on w step) g
      (λ k. repeats_run e times mid r new well (turn_runs e old answer mid on w step) k))

  turns_run : (hosts : List Host) (old : WorldState C) (r : Answer) (new : WorldState C) → stops r ≡ false → Runs old → TurnsOf calls hosts old r new → Runs new
  turns_run [] old r new well w h = subst Runs (sym h.1) w
  turns_run (h ∷ hosts) old r new well w (first, taken, takes, rest) =
      then_runs _ first taken r new (stops first) refl well rest
      (λ on g. then_runs (TurnsOf calls hosts g.1 r new) g.0 g.1 r new (stops g.0) refl well g.3
      (λ more k. turns_run hosts g.1 r new well (repeats_run (Offer h) 32 taken g.0 g.1 more (repeats_run (Take h) 16 old first taken on w takes) g.2) k))

  calms_run : (rounds : ℕ) (old : WorldState C) (r : Answer) (new : WorldState C) → stops r ≡ false → Runs old → Calms calls rounds old r new → Runs new
  calms_run zero old r new well w h = subst Runs (sym h.1) w
  calms_run (suc rounds) old r new well w (first, quiet, step, rest) =
      then_runs _ first quiet r new (stops first) refl well rest
      (λ on g. then_runs (Calms calls rounds g.1 r new) g.0 g.1 r new (stops g.0) refl well g.3
      (λ more k. calms_run rounds g.1 r new well (turns_run (up_in quiet.seats) quiet g.0 g.1 more (turn_runs Quiet old first quiet on w step) g.2) k))

  pub happens_runs : (e : WorldEvent) (old new : WorldState C) (lines : List Shown) → Runs old → Happens calls old e new lines → Runs new
  happens_runs (script.Happen e) old new lines w h =
      follows (AmongGives calls old e h.outcome new) old h.outcome new old.stopped refl w h.gives (λ g. went_on h.outcome new h.goes_on (among_went e old h.outcome new w g))
  happens_runs (script.Calm rounds) old new lines w h = follows (Calms calls rounds old h.outcome new) old h.outcome new old.stopped refl w h.gives (calms_run rounds old h.outcome new h.goes_on w)

  pub replay_runs : (events : List WorldEvent) (old new : WorldState C) (lines : List Shown) → Runs old → Replays calls old events new lines → Runs new
  replay_runs [] old new lines w h = subst Runs (sym h.0) w
  replay_runs (e ∷ events) old new lines w (mid, first, rest, one, more, all) = replay_runs events mid new rest (happens_runs e old mid first w one) more
