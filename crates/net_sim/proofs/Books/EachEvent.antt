-- One walk over the events of a world: each ends in one of few ways, and a relation between the worlds before and after that each way
-- keeps holds of every event.
use Rattle.net_sim.proofs.Common.{◌≡◌, inl, inr, if◌then◌else◌, ℕ, Bool, true, false, List, [], ◌∷◌, ◌++◌, length, map, Option, Some, None, Ok, Err, refl, ap, sym, subst, ◌∙◌, MatchBool, reverse_onto, Calls, Seen, crossing_of, is_memory, step_crossings, up_at, Host, CarrierFault, Crossing, Inbound, NetEvent, HostMessage, accepted, NcpState, refusal, next_out, NcpFault, Request, line_bits, AreOfOneEvent, AreStops, WorldState, WorldFault, Carrier, Program, Net, Quiet, Offer, Ask, Server, User, Typed, Seat, seat_of, served_at, services_of, with_carrier, with_server, with_user, world_moved, AskGives, AtProgram, AtSeat, Does, DoesOrHalts, EventGives, Halts, NetEnds, OfferEnds, OfferGives, QuietEnds, Refuses, TurnGives, TakeEnds, TakeGives, TypeGives}
use Rattle.std.proofs.Common.{Result}
use Rattle.std.specs.Prelude.{reverse}
use Rattle.interface.specs.declared.carrier.CarrierFault.TheVariants as fault
use Rattle.interface.specs.declared.crossing.Crossing.TheVariants as crossing
use Rattle.interface.specs.declared.event.NetEvent.TheVariants as event
use Rattle.sockets.specs.Sending.{offered}
use Rattle.sockets.specs.declared.fault.NcpFault.TheVariants as problem
use Rattle.sockets.specs.declared.request.Request.TheVariants as request
use Rattle.net_sim.specs.World.{Event, Out, Take, Passes, changed, has_seat, is_of_strangers, is_sent}
use Rattle.net_sim.specs.World as world

abbrev pub Answered : Type 0
Answered = Result (Unit {0}) WorldFault

-- what each call of a carrier shows of what crossed by it
pub record Shows {C : Type 0} (calls : Calls C) (Crossed : C → C → List Crossing → Type 0) : Type 0 where
  pub none : (c : C) → Crossed c c []
  pub offered : (c d : C) (m : HostMessage) (done : Unit {0}) → calls.offers c m (Ok done) d → Crossed c d (crossing.Out m ∷ [])
  pub unoffered : (c d : C) (m : HostMessage) (e : CarrierFault) → calls.offers c m (Err e) d → Crossed c d []
  pub took : (c d : C) (h : Host) (i : Inbound) → calls.takes c h (Ok (Some i)) d → Crossed c d (crossing_of i ∷ [])
  pub took_none : (c d : C) (h : Host) → calls.takes c h (Ok None) d → Crossed c d []
  pub untaken : (c d : C) (h : Host) (e : CarrierFault) → calls.takes c h (Err e) d → Crossed c d []
  pub stepped : (c d : C) (e : NetEvent) (done : Unit {0}) → calls.steps c e (Ok done) d → Crossed c d (step_crossings (calls.seen c) e)
  pub unstepped : (c d : C) (e : NetEvent) (f : CarrierFault) → calls.steps c e (Err f) d → Crossed c d []
  pub quiet : (c d : C) (done : Unit {0}) → calls.rounds c (Ok done) d → Crossed c d []
  pub unquiet : (c d : C) (f : CarrierFault) → calls.rounds c (Err f) d → Crossed c d []

-- where it doesn't matter what crossed
pub unshown : {C : Type 0} (calls : Calls C) → Shows calls (λ c d cs. Unit {0})
unshown calls = record {
  none = λ c. tt;
  offered = λ c d m u k. tt;
  unoffered = λ c d m e k. tt;
  took = λ c d h i k. tt;
  took_none = λ c d h k. tt;
  untaken = λ c d h e k. tt;
  stepped = λ c d e u k. tt;
  unstepped = λ c d e f k. tt;
  quiet = λ c d u k. tt;
  unquiet = λ c d f k. tt;
}

-- a host that is up, and its program
abbrev pub HasProgram : {C : Type 0} → Host → NcpState → WorldState C → Type 0
HasProgram h s w = (seat : Seat) × (seat_of h w.seats ≡ Some seat) × (seat.program ≡ Some s)

-- the relation holds of each way in which an event of a world that hasn't stopped can end: nothing is done, memory runs out, the carrier
-- refuses, nothing crosses, a program's message goes out or something comes in for one, the network's own crossings, and what a user asks
-- for or begins. What only a stranger sends is refused too, which isn't among these ways
pub record Ways {C : Type 0} (calls : Calls C) (Crossed : C → C → List Crossing → Type 0) (R : WorldState C → Answered → WorldState C → Type 0) : Type 0 where
  pub left : (r : Answered) (w : WorldState C) → is_of_strangers r ≡ false → R w r w
  pub halted : (c : C) (cs : List Crossing) (old : WorldState C) (r : Answered) (new : WorldState C) → old.stopped ≡ false
      → Crossed old.carrier c cs → AreOfOneEvent cs → Halts c old r new → R old r new
  pub passed : (e : CarrierFault) (c : C) (old : WorldState C) → old.stopped ≡ false → Crossed old.carrier c []
      → R old (Err (Carrier e)) (record old { carrier = c; stopped = is_memory e })
  pub quiet : (c : C) (old : WorldState C) → old.stopped ≡ false → Crossed old.carrier c [] → R old (Ok tt) (with_carrier c old)
  pub sent : (c : C) (h : Host) (s : NcpState) (m : HostMessage) (old : WorldState C) → old.stopped ≡ false → HasProgram h s old → next_out s ≡ Some m
      → Crossed old.carrier c (crossing.Out m ∷ []) → R old (Ok tt) (world_moved c h (crossing.Out m) (offered s (length old.kept.book.crossings)) old)
  pub took : (c : C) (h : Host) (s : NcpState) (i : Inbound) (old : WorldState C) → old.stopped ≡ false → HasProgram h s old
      → Crossed old.carrier c (crossing_of i ∷ []) → R old (Ok tt) (world_moved c h (crossing_of i) (accepted s i (length old.kept.book.crossings)) old)
  pub turned : (c : C) (e : NetEvent) (old : WorldState C) → old.stopped ≡ false → Crossed old.carrier c (step_crossings (calls.seen old.carrier) e)
      → R old (Ok tt) (changed c (step_crossings (calls.seen old.carrier) e) old)
  pub served : (h : Host) (q : Request) (s : NcpState) (old : WorldState C) → old.stopped ≡ false → HasProgram h s old → refusal s q ≡ None
      → R old (Ok tt) (served_at h q s old)
  pub server : (h : Host) (listen base : ℕ) (s : NcpState) (old : WorldState C) → old.stopped ≡ false → HasProgram h s old
      → R old (Ok tt) (with_server h listen base s old)
  pub user : (h peer : Host) (listen own : ℕ) (s : NcpState) (old : WorldState C) → old.stopped ≡ false → HasProgram h s old
      → R old (Ok tt) (with_user h peer listen own s old)

-- ---- what crosses in one event

stops_append : (xs ys : List Crossing) → AreStops xs → AreStops ys → AreStops (xs ++ ys)
stops_append [] ys h k = k
stops_append (crossing.Down h ∷ xs) ys s k = stops_append xs ys s k
stops_append (crossing.Up h ∷ xs) ys s k = absurd s
stops_append (crossing.Out m ∷ xs) ys s k = absurd s
stops_append (crossing.In m ∷ xs) ys s k = absurd s
stops_append (crossing.Answer kind f ∷ xs) ys s k = absurd s

all_stop : (hs : List Host) → AreStops (reverse (map (λ h. crossing.Down h) hs))
all_stop [] = tt
all_stop (h ∷ hs) =
    subst (λ (xs : List Crossing). AreStops xs) (sym (reverse_onto (map (λ g. crossing.Down g) hs) (crossing.Down h) []))
    (stops_append (reverse (map (λ g. crossing.Down g) hs)) (crossing.Down h ∷ []) (all_stop hs) tt)

stops_of_one : (cs : List Crossing) → AreStops cs → AreOfOneEvent cs
stops_of_one [] s = tt
stops_of_one (c ∷ []) s = tt
stops_of_one (c ∷ d ∷ cs) s = s

step_of_one : (seen : Seen) (e : NetEvent) → AreOfOneEvent (step_crossings seen e)
step_of_one seen (event.ImpDown imp) = stops_of_one (step_crossings seen (event.ImpDown imp)) (all_stop (up_at seen imp))
step_of_one seen e = tt

-- ---- the walk

module _ {C : Type 0} (calls : Calls C) (Crossed : C → C → List Crossing → Type 0) (shows : Shows calls Crossed)
    (R : WorldState C → Answered → WorldState C → Type 0) (ways : Ways calls Crossed R) where
  pub does : (done old : WorldState C) (r : Answered) (new : WorldState C) → R old (Ok tt) done → Does done r new → R old r new
  does done old r new k d = subst (R old r) (sym d.1) (subst (λ (a : Answered). R old a done) (sym d.0) k)

  refuses : (f : WorldFault) (old : WorldState C) (r : Answered) (new : WorldState C) → is_of_strangers (Err f) ≡ false → Refuses f old r new → R old r new
  refuses f old r new own h = subst (R old r) (sym h.1) (ways.left r old (ap is_of_strangers h.0 ∙ own))

  pub passes : (e : CarrierFault) (c : C) (old : WorldState C) (r : Answered) (new : WorldState C) → old.stopped ≡ false → Crossed old.carrier c []
      → Passes e c old r new → R old r new
  passes e c old r new running crossed h =
      let now : WorldState C = record old { carrier = c; stopped = is_memory e } in
      subst (R old r) (sym h.1) (subst (λ (a : Answered). R old a now) (sym h.0) (ways.passed e c old running crossed))

  -- nothing crossed, and memory runs out
  halts : (old : WorldState C) (r : Answered) (new : WorldState C) → old.stopped ≡ false → Halts old.carrier old r new → R old r new
  halts old r new running h = ways.halted old.carrier [] old r new running (shows.none old.carrier) tt h

  does_or_halts : (done old : WorldState C) (r : Answered) (new : WorldState C) → old.stopped ≡ false → R old (Ok tt) done → DoesOrHalts done old r new → R old r new
  does_or_halts done old r new running k (inl d) = does done old r new k d
  does_or_halts done old r new running k (inr x) = halts old r new running x

  offer_ends : (h : Host) (s : NcpState) (m : HostMessage) (answer : Result (Unit {0}) CarrierFault) (c : C) (old : WorldState C) (r : Answered) (new : WorldState C)
      → old.stopped ≡ false → HasProgram h s old → next_out s ≡ Some m → calls.offers old.carrier m answer c → OfferEnds h s m answer c old r new → R old r new
  offer_ends h s m (Ok done) c old r new running has next call (inl d) =
      does (world_moved c h (crossing.Out m) (offered s (length old.kept.book.crossings)) old) old r new
      (ways.sent c h s m old running has next (shows.offered old.carrier c m done call)) d
  offer_ends h s m (Ok done) c old r new running has next call (inr x) =
      ways.halted c (crossing.Out m ∷ []) old r new running (shows.offered old.carrier c m done call) tt x
  offer_ends h s m (Err e) c old r new running has next call ends = passes e c old r new running (shows.unoffered old.carrier c m e call) ends

  offer_way : (h : Host) (s : NcpState) (o : Option HostMessage) (old : WorldState C) (r : Answered) (new : WorldState C) → old.stopped ≡ false → HasProgram h s old
      → next_out s ≡ o → OfferGives calls h s o old r new → R old r new
  offer_way h s None old r new running has next gives = subst (R old r) (sym gives.1) (ways.left r old (ap is_of_strangers gives.0))
  offer_way h s (Some m) old r new running has next (inl x) = halts old r new running x
  offer_way h s (Some m) old r new running has next (inr t) = offer_ends h s m t.0 t.1 old r new running has next t.2 t.3

  take_ends : (h : Host) (s : NcpState) (answer : Result (Option Inbound) CarrierFault) (c : C) (old : WorldState C) (r : Answered) (new : WorldState C)
      → old.stopped ≡ false → HasProgram h s old → calls.takes old.carrier h answer c → TakeEnds h s answer c old r new → R old r new
  take_ends h s (Ok None) c old r new running has call ends =
      does (with_carrier c old) old r new (ways.quiet c old running (shows.took_none old.carrier c h call)) ends
  take_ends h s (Ok (Some i)) c old r new running has call (inl d) =
      does (world_moved c h (crossing_of i) (accepted s i (length old.kept.book.crossings)) old) old r new
      (ways.took c h s i old running has (shows.took old.carrier c h i call)) d
  take_ends h s (Ok (Some i)) c old r new running has call (inr x) =
      ways.halted c (crossing_of i ∷ []) old r new running (shows.took old.carrier c h i call) tt x
  take_ends h s (Err e) c old r new running has call ends = passes e c old r new running (shows.untaken old.carrier c h e call) ends

  net_ends : (e : NetEvent) (answer : Result (Unit {0}) CarrierFault) (c : C) (old : WorldState C) (r : Answered) (new : WorldState C)
      → old.stopped ≡ false → calls.steps old.carrier e answer c → NetEnds (calls.seen old.carrier) e answer c old r new → R old r new
  net_ends e (Ok done) c old r new running call (inl d) =
      does (changed c (step_crossings (calls.seen old.carrier) e) old) old r new (ways.turned c e old running (shows.stepped old.carrier c e done call)) d
  net_ends e (Ok done) c old r new running call (inr x) =
      ways.halted c (step_crossings (calls.seen old.carrier) e) old r new running (shows.stepped old.carrier c e done call) (step_of_one (calls.seen old.carrier) e) x.1
  net_ends e (Err f) c old r new running call ends = passes f c old r new running (shows.unstepped old.carrier c e f call) ends

  quiet_ends : (answer : Result (Unit {0}) CarrierFault) (c : C) (old : WorldState C) (r : Answered) (new : WorldState C)
      → old.stopped ≡ false → calls.rounds old.carrier answer c → QuietEnds answer c old r new → R old r new
  quiet_ends (Ok done) c old r new running call ends = does (with_carrier c old) old r new (ways.quiet c old running (shows.quiet old.carrier c done call)) ends
  quiet_ends (Err f) c old r new running call ends = passes f c old r new running (shows.unquiet old.carrier c f call) ends

  ask_way : (h : Host) (q : Request) (s : NcpState) (o : Option NcpFault) (old : WorldState C) (r : Answered) (new : WorldState C) → old.stopped ≡ false → HasProgram h s old
      → refusal s q ≡ o → AskGives h q s o old r new → R old r new
  ask_way h q s (Some f) old r new running has is gives = refuses (Program f) old r new refl gives
  ask_way h q s None old r new running has is gives = does_or_halts (served_at h q s old) old r new running (ways.served h q s old running has is) gives

  type_way : (h : Host) (line : List ℕ) (s : NcpState) (o : Option ℕ) (old : WorldState C) (r : Answered) (new : WorldState C) → old.stopped ≡ false → HasProgram h s old
      → TypeGives h line s o old r new → R old r new
  type_way h line s None old r new running has gives = refuses (Program problem.NotOpen) old r new refl gives
  type_way h line s (Some socket) old r new running has gives =
      let q : Request = request.Send socket (line_bits line) in ask_way h (request.Send socket (line_bits line)) s (refusal s q) old r new running has refl gives

  -- a host that isn't there, or is down, does nothing
  at_program : (h : Host) (Gives : NcpState → Type 0) (seat : Seat) (o : Option NcpState) (old : WorldState C) (r : Answered) (new : WorldState C) → seat_of h old.seats ≡ Some seat
      → seat.program ≡ o → ((s : NcpState) → HasProgram h s old → Gives s → R old r new) → AtProgram Gives o old r new → R old r new
  at_program h Gives seat None old r new found is k t = refuses (Carrier fault.IsDown) old r new refl t
  at_program h Gives seat (Some s) old r new found is k t = k s (seat, found, is) t

  at_seat : (h : Host) (Gives : NcpState → Type 0) (o : Option Seat) (old : WorldState C) (r : Answered) (new : WorldState C) → seat_of h old.seats ≡ o
      → ((s : NcpState) → HasProgram h s old → Gives s → R old r new) → AtSeat Gives o old r new → R old r new
  at_seat h Gives None old r new found k t = refuses (Carrier fault.NoSuch) old r new refl t
  at_seat h Gives (Some seat) old r new found k t = at_program h Gives seat seat.program old r new found refl k t

  at_host : (h : Host) (Gives : NcpState → Type 0) (old : WorldState C) (r : Answered) (new : WorldState C)
      → ((s : NcpState) → HasProgram h s old → Gives s → R old r new) → AtSeat Gives (seat_of h old.seats) old r new → R old r new
  at_host h Gives old r new k t = at_seat h Gives (seat_of h old.seats) old r new refl k t

  pub event_way : (e : Event) → (is_sent e ≡ true → (w : WorldState C) → R w (Err world.HasProgram) w)
      → (old : WorldState C) (r : Answered) (new : WorldState C) → old.stopped ≡ false → EventGives calls old e r new → R old r new
  event_way (Out m) unsaid_way old r new running t =
      subst (R old r) (sym t.1) (subst (λ (a : Answered). R old a old) (sym t.0) (by (has_seat m.flow.source old.seats))) where
        by : (b : Bool) → R old (Err (if b then world.HasProgram else Carrier fault.NoSuch)) old
        by true = unsaid_way refl old
        by false = ways.left (Err (Carrier fault.NoSuch)) old refl
  event_way (Net e) unsaid_way old r new running t = net_ends e t.0 t.1 old r new running t.2 t.3
  event_way Quiet unsaid_way old r new running t = quiet_ends t.0 t.1 old r new running t.2 t.3
  event_way (Offer h) unsaid_way old r new running t =
      at_host h (λ s. OfferGives calls h s (next_out s) old r new) old r new (λ s has g. offer_way h s (next_out s) old r new running has refl g) t
  event_way (Take h) unsaid_way old r new running t =
      at_host h (λ s. TakeGives calls h s old r new) old r new (λ s has g. take_ends h s g.0 g.1 old r new running has g.2 g.3) t
  event_way (Ask h q) unsaid_way old r new running t =
      at_host h (λ s. AskGives h q s (refusal s q) old r new) old r new (λ s has g. ask_way h q s (refusal s q) old r new running has refl g) t
  event_way (Server h listen base) unsaid_way old r new running t =
      at_host h (λ s. DoesOrHalts (with_server h listen base s old) old r new) old r new
      (λ s has g. does_or_halts (with_server h listen base s old) old r new running (ways.server h listen base s old running has) g) t
  event_way (User h peer listen own) unsaid_way old r new running t =
      at_host h (λ s. DoesOrHalts (with_user h peer listen own s old) old r new) old r new
      (λ s has g. does_or_halts (with_user h peer listen own s old) old r new running (ways.user h peer listen own s old running has) g) t
  event_way (Typed h line) unsaid_way old r new running t =
      at_host h (λ s. TypeGives h line s (services_of h old.services).typing old r new) old r new
      (λ s has g. type_way h line s (services_of h old.services).typing old r new running has g) t

  if_stopped : (P : Type 0) (old : WorldState C) (r : Answered) (new : WorldState C) → (b : Bool) → old.stopped ≡ b → (old.stopped ≡ false → P → R old r new)
      → MatchBool b (Refuses (Carrier fault.Stopped) old r new) P → R old r new
  if_stopped P old r new true is k h = refuses (Carrier fault.Stopped) old r new refl h
  if_stopped P old r new false is k h = k is h

  -- one event, whether or not the world has stopped
  pub turn_way : (e : Event) → (is_sent e ≡ true → (w : WorldState C) → R w (Err world.HasProgram) w)
      → (old : WorldState C) (r : Answered) (new : WorldState C) → TurnGives calls old e r new → R old r new
  turn_way e unsaid_way old r new h = if_stopped (EventGives calls old e r new) old r new old.stopped refl (λ running g. event_way e unsaid_way old r new running g) h
