-- What an event does to a carrier and to hosts with programs, it does whichever hosts are strangers.
use Rattle.net_sim.proofs.Common.{◌⊎◌, inl, inr, ℕ, List, [], ◌∷◌, Option, Some, None, Ok, Err, refl, ap, length, Calls, Seen, crossing_of, step_crossings, Host, CarrierFault, Inbound, NetEvent, HostMessage, accepted, NcpState, refusal, next_out, NcpFault, Request, line_bits, WorldState, WorldFault, Program, Net, Quiet, Offer, Ask, Server, User, Typed, Seat, seat_of, served_at, services_of, with_carrier, with_server, with_user, world_moved, AskGives, AtProgram, AtSeat, Does, DoesOrHalts, EventGives, Halts, NetEnds, OfferEnds, OfferGives, QuietEnds, Refuses, TakeEnds, TakeGives, TypeGives}
use Rattle.std.proofs.Common.{Result}
use Rattle.interface.specs.declared.crossing.Crossing.TheVariants as crossing
use Rattle.sockets.specs.Sending.{offered}
use Rattle.sockets.specs.declared.fault.NcpFault.TheVariants as problem
use Rattle.sockets.specs.declared.request.Request.TheVariants as request
use Rattle.net_sim.specs.Inside.Held.{among}
use Rattle.net_sim.specs.Steps.{FetchEnds, FetchGives, OutEnds, OutGives}
use Rattle.net_sim.specs.World.{Event, Out, Passes, Take, changed, unsaid}

abbrev Answer : Type 0
Answer = Result (Unit {0}) WorldFault

module _ {C : Type 0} (calls : Calls C) (xs : List Host) where
  -- what so went goes so among these strangers
  abbrev pub Moves : (WorldState C → Answer → WorldState C → Type 0) → Type 0
  Moves P = (old : WorldState C) (r : Answer) (new : WorldState C) → P old r new → P (among xs old) r (among xs new)

  does : (done : WorldState C) (r : Answer) (new : WorldState C) → Does done r new → Does (among xs done) r (among xs new)
  does done r new d = (d.0, ap (λ (w : WorldState C). among xs w) d.1)

  halts : (c : C) → Moves (Halts c)
  halts c old r new h = record { fault = h.fault; answer = h.answer; memory = h.memory; carrier = h.carrier; strangers = refl; kept = h.kept; stopped = h.stopped }

  refuses : (f : WorldFault) → Moves (Refuses f)
  refuses f old r new h = (h.0, ap (λ (w : WorldState C). among xs w) h.1)

  passes : (e : CarrierFault) (c : C) → Moves (Passes e c)
  passes e c old r new h = (h.0, ap (λ (w : WorldState C). among xs w) h.1)

  ends : (done : WorldState C) (c : C) (old : WorldState C) (r : Answer) (new : WorldState C)
      → Does done r new ⊎ Halts c old r new → Does (among xs done) r (among xs new) ⊎ Halts c (among xs old) r (among xs new)
  ends done c old r new (inl d) = inl (does done r new d)
  ends done c old r new (inr h) = inr (halts c old r new h)

  offer_ends : (h : Host) (s : NcpState) (m : HostMessage) (answer : Result (Unit {0}) CarrierFault) (c : C) → Moves (OfferEnds h s m answer c)
  offer_ends h s m (Ok done) c old r new g = ends (world_moved c h (crossing.Out m) (offered s (length old.kept.book.crossings)) old) c old r new g
  offer_ends h s m (Err e) c old r new g = passes e c old r new g

  offer_gives : (h : Host) (s : NcpState) (o : Option HostMessage) → Moves (OfferGives calls h s o)
  offer_gives h s None old r new g = does old r new g
  offer_gives h s (Some m) old r new (inl g) = inl (halts old.carrier old r new g)
  offer_gives h s (Some m) old r new (inr t) = inr (t.0, t.1, t.2, offer_ends h s m t.0 t.1 old r new t.3)

  take_ends : (h : Host) (s : NcpState) (answer : Result (Option Inbound) CarrierFault) (c : C) → Moves (TakeEnds h s answer c)
  take_ends h s (Ok None) c old r new g = does (with_carrier c old) r new g
  take_ends h s (Ok (Some i)) c old r new g = ends (world_moved c h (crossing_of i) (accepted s i (length old.kept.book.crossings)) old) c old r new g
  take_ends h s (Err e) c old r new g = passes e c old r new g

  net_ends : (seen : Seen) (e : NetEvent) (answer : Result (Unit {0}) CarrierFault) (c : C) → Moves (NetEnds seen e answer c)
  net_ends seen e (Ok done) c old r new (inl g) = inl (does (changed c (step_crossings seen e) old) r new g)
  net_ends seen e (Ok done) c old r new (inr g) = inr (g.0, halts c old r new g.1)
  net_ends seen e (Err f) c old r new g = passes f c old r new g

  quiet_ends : (answer : Result (Unit {0}) CarrierFault) (c : C) → Moves (QuietEnds answer c)
  quiet_ends (Ok done) c old r new g = does (with_carrier c old) r new g
  quiet_ends (Err f) c old r new g = passes f c old r new g

  ask_gives : (h : Host) (q : Request) (s : NcpState) (o : Option NcpFault) → Moves (AskGives h q s o)
  ask_gives h q s (Some f) old r new g = refuses (Program f) old r new g
  ask_gives h q s None old r new g = ends (served_at h q s old) old.carrier old r new g

  type_gives : (h : Host) (line : List ℕ) (s : NcpState) (o : Option ℕ) → Moves (TypeGives h line s o)
  type_gives h line s None old r new g = refuses (Program problem.NotOpen) old r new g
  type_gives h line s (Some socket) old r new g =
      ask_gives h (request.Send socket (line_bits line)) s (refusal s (request.Send socket (line_bits line))) old r new g

  at_program : (Gives Given : NcpState → Type 0) (o : Option NcpState) (old : WorldState C) (r : Answer) (new : WorldState C)
      → ((s : NcpState) → Gives s → Given s) → AtProgram Gives o old r new → AtProgram Given o (among xs old) r (among xs new)
  at_program Gives Given None old r new k g = refuses _ old r new g
  at_program Gives Given (Some s) old r new k g = k s g

  at_seat : (Gives Given : NcpState → Type 0) (o : Option Seat) (old : WorldState C) (r : Answer) (new : WorldState C)
      → ((s : NcpState) → Gives s → Given s) → AtSeat Gives o old r new → AtSeat Given o (among xs old) r (among xs new)
  at_seat Gives Given None old r new k g = refuses _ old r new g
  at_seat Gives Given (Some seat) old r new k g = at_program Gives Given seat.program old r new k g

  -- of the program in a host's seat
  at_host : (h : Host) (Gives : NcpState → WorldState C → Answer → WorldState C → Type 0) → ((s : NcpState) → Moves (Gives s))
      → Moves (λ old r new. AtSeat (λ s. Gives s old r new) (seat_of h old.seats) old r new)
  at_host h Gives k old r new t =
      at_seat (λ s. Gives s old r new) (λ s. Gives s (among xs old) r (among xs new)) (seat_of h old.seats) old r new (λ s g. k s old r new g) t

  pub event_among : (e : Event) → Moves (λ old r new. EventGives calls old e r new)
  event_among (Net e) old r new t = (t.0, t.1, t.2, net_ends (calls.seen old.carrier) e t.0 t.1 old r new t.3)
  event_among Quiet old r new t = (t.0, t.1, t.2, quiet_ends t.0 t.1 old r new t.3)
  event_among (Offer h) old r new t = at_host h (λ s w q v. OfferGives calls h s (next_out s) w q v) (λ s w q v g. offer_gives h s (next_out s) w q v g) old r new t
  event_among (Take h) old r new t = at_host h (λ s w q v. TakeGives calls h s w q v) (λ s w q v g. (g.0, g.1, g.2, take_ends h s g.0 g.1 w q v g.3)) old r new t
  event_among (Ask h q) old r new t = at_host h (λ s w a v. AskGives h q s (refusal s q) w a v) (λ s w a v g. ask_gives h q s (refusal s q) w a v g) old r new t
  event_among (Server h listen base) old r new t =
      at_host h (λ s w q v. DoesOrHalts (with_server h listen base s w) w q v) (λ s w q v g. ends (with_server h listen base s w) w.carrier w q v g) old r new t
  event_among (User h peer listen own) old r new t =
      at_host h (λ s w q v. DoesOrHalts (with_user h peer listen own s w) w q v) (λ s w q v g. ends (with_user h peer listen own s w) w.carrier w q v g) old r new t
  event_among (Typed h line) old r new t =
      at_host h (λ s w q v. TypeGives h line s (services_of h w.services).typing w q v) (λ s w q v g. type_gives h line s (services_of h w.services).typing w q v g) old r new t
  event_among (Out m) old r new t = refuses (unsaid m old.seats) old r new t

  -- ---- what a stranger does

  out_ends : (m : HostMessage) (answer : Result (Unit {0}) CarrierFault) (c : C) → Moves (OutEnds m answer c)
  out_ends m (Ok done) c old r new g = ends (changed c (crossing.Out m ∷ []) old) c old r new g
  out_ends m (Err e) c old r new g = passes e c old r new g

  pub out_among : (m : HostMessage) → Moves (OutGives calls m)
  out_among m old r new t = (t.0, t.1, t.2, out_ends m t.0 t.1 old r new t.3)

  fetch_ends : (answer : Result (Option Inbound) CarrierFault) (c : C) → Moves (FetchEnds answer c)
  fetch_ends (Ok None) c old r new g = does (with_carrier c old) r new g
  fetch_ends (Ok (Some i)) c old r new g = ends (changed c (crossing_of i ∷ []) old) c old r new g
  fetch_ends (Err e) c old r new g = passes e c old r new g

  pub fetch_among : (h : Host) → Moves (FetchGives calls h)
  fetch_among h old r new t = (t.0, t.1, t.2, fetch_ends t.0 t.1 old r new t.3)
