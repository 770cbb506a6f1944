-- Each event of a world drives its carrier by the call that it makes.
use Rattle.world_replay.proofs.Common.{false≢true, MatchBool, All, Notice, ServiceDeskState, opening_desk, line_bits, Host, Crossing, Kept, all_asked, all_crossed, all_told, asked, book_told, crossed, shown, Event, Ask, Net, Offer, Out, Quiet, Server, Take, Typed, User, WorldFault, Carrier, Seat, Happening, InTurn, accepted, NcpState, refusal, served, served_notices, next_out, offered, NcpFault, Request, WorldEvent}
use Rattle.std.proofs.Common.{◌≡◌, ◌⊎◌, inr, ℕ, Bool, true, false, List, [], ◌∷◌, ◌++◌, length, Option, Some, None, Result, Ok, Err, reverse, refl, ap, sym, subst, ◌∙◌, if◌then◌else◌, inl}
use Rattle.std.proofs.lemmas.List.{append-nil, reverse-reverse, append_assoc}
use Rattle.std.proofs.lemmas.List.Elements.{All-cons, All-nil, All-append}
use Rattle.interface.specs.Calls.{Calls, Seen, crossing_of, is_memory, step_crossings, ShowsCrossings, ShowsOffer, ShowsRefusal, ShowsStep, ShowsTake, halted}
use Rattle.net_sim.specs.World.{AskGives, AtProgram, AtSeat, DoesOrHalts, NetEnds, OfferEnds, OfferGives, Passes, QuietEnds, Refuses, TurnGives, TakeEnds, TakeGives, TypeGives, WorldState, changed, done_by, noticed, seat_of, served_at, services_of, stops, with_carrier, with_server, with_user, world_moved, EventGives, turn_of}
use Rattle.net_sim.proofs.lemmas.{alone}
use Rattle.replay.specs.Replay.{GoesOn, Happens}
use Rattle.replay.proofs.lemmas.{grown_more, crossings_shown}
use Rattle.world_replay.specs.Driven.{Brings, Drive, Drives, Goes, IsCall, IsDriven, IsDrivenIn, IsShown, Raw, Round, call_of, program_of}
use Rattle.world_replay.specs.Replay.{HappensInCalm, Replays}
use Rattle.std.specs.Option.{option_and_then, option_map, option_to_list}
use Rattle.host_services.specs.Turns as services
use Rattle.interface.specs.declared.CarrierFault.{CarrierFault}
use Rattle.interface.specs.declared.CarrierFault.TheVariants as fault
use Rattle.interface.specs.declared.HostMessage.{HostMessage}
use Rattle.interface.specs.declared.Inbound.{Inbound}
use Rattle.interface.specs.declared.NetEvent.{NetEvent}
use Rattle.interface.specs.declared.crossing.Crossing.TheVariants as crossing
use Rattle.replay.specs.Output.{Crossed, Refused, crossings_of, shown_crossings, shown_refusal}
use Rattle.replay.specs.Output as raw_output
use Rattle.replay.specs.Replay as raw_replay
use Rattle.script.specs.declared.event.RawEvent.{RawEvent}
use Rattle.script.specs.declared.event.RawEvent.TheVariants as raw
use Rattle.sockets.specs.declared.request.Request.TheVariants as request
use Rattle.world_replay.specs.Output.{Shown}
use Rattle.world_replay.specs.Replay as world_replay
use Rattle.world_replay.proofs.CalmEvents.{calm_events}
use Rattle.world_replay.proofs.Staying.{script_same}
use Rattle.world_replay.proofs.Steady.{halts_stop, passes_goes}
use Rattle.world_script.specs.declared.event.WorldEvent.TheVariants as script

abbrev Answer : Type 0
Answer = Result (Unit {0}) WorldFault

-- ---- lists

-- events in turn, and then others
pub in_turn_then : {S E L : Type 0} (Happens : Happening S E L) (old mid new : S) (xs ys : List E) (lines more : List L) → InTurn Happens old xs mid lines → InTurn Happens mid ys new more → InTurn Happens old (xs ++ ys) new (lines ++ more)
in_turn_then {S} {E} {L} Happens old mid new [] ys lines more (same, none) k =
    subst (λ (ls : List L). InTurn Happens old ys new (ls ++ more)) (sym none) (subst (λ (s : S). InTurn Happens s ys new more) same k)
in_turn_then Happens old mid new (x ∷ xs) ys lines more (next, first, rest, h, hs, all) k =
    (next, first, rest ++ more, h, in_turn_then Happens next mid new xs ys rest more hs k, ap (λ ls. ls ++ more) all ∙ append_assoc first rest more)

pub in_turn_one : {S E L : Type 0} (Happens : Happening S E L) (old new : S) (e : E) (lines : List L) → Happens old e new lines → InTurn Happens old (e ∷ []) new lines
in_turn_one Happens old new e lines h = (new, lines, [], h, (refl, refl), sym (append-nil lines))

pub crossings_then : (xs ys : List raw_output.Shown) → crossings_of (xs ++ ys) ≡ crossings_of xs ++ crossings_of ys
crossings_then [] ys = refl
crossings_then (Crossed c ∷ xs) ys = ap (λ cs. c ∷ cs) (crossings_then xs ys)
crossings_then (Refused f ∷ xs) ys = crossings_then xs ys

-- ---- what a book has of the log

crossed_log : (cs : List Crossing) (k : Kept) → (all_crossed cs k).book.crossings ≡ cs ++ k.book.crossings
crossed_log [] k = refl
crossed_log (c ∷ cs) k = ap (λ xs. c ∷ xs) (crossed_log cs k)

told_log : (h : Host) (ns : List Notice) (k : Kept) → (all_told h ns k).book.crossings ≡ k.book.crossings
told_log h [] k = refl
told_log h (n ∷ ns) k = told_log h ns (book_told h n k)

asked_log : (h : Host) (rs : List Request) (k : Kept) → (all_asked h rs k).book.crossings ≡ k.book.crossings
asked_log h [] k = refl
asked_log h (r ∷ rs) k = asked_log h rs (asked h r k)

heard_log : (h : Host) (d : ServiceDeskState) (ns : List Notice) (k : Kept) → (done_by h d (all_told h ns k)).book.crossings ≡ k.book.crossings
heard_log h d ns k = asked_log h d.asked (all_told h ns k) ∙ told_log h ns k

pub moved_log : {C : Type 0} (h : Host) (x : Crossing) (turn : NcpState × List Notice) (old : WorldState C) → (c : C) → (world_moved c h x turn old).kept.book.crossings ≡ x ∷ old.kept.book.crossings
moved_log {C} h x turn old c =
    let w : WorldState C = record old { carrier = c; kept = crossed x old.kept } in
    heard_log h (turn_of h (noticed w) (services_of h w.services) turn).1 turn.1 w.kept

served_log : {C : Type 0} (h : Host) (q : Request) (s : NcpState) (old : WorldState C) → (served_at h q s old).kept.book.crossings ≡ old.kept.book.crossings
served_log {C} h q s old =
    let w : WorldState C = record old { kept = asked h q old.kept } in
    heard_log h (turn_of h (noticed w) (services_of h w.services) (served s q, served_notices s q)).1 (served_notices s q) w.kept

-- ---- what the carrier's log has

pub by_crossings : (old new : Seen) (cs : List Crossing) → ShowsCrossings old cs new → new.log ≡ cs ++ old.log
by_crossings old new cs h = ap (λ (s : Seen). s.log) h.shown

by_refusal : (old new : Seen) (e : CarrierFault) → ShowsRefusal old e new → new.log ≡ old.log
by_refusal old new e h = ap (λ (s : Seen). s.log) h.shown ∙ by (is_memory e) where
  by : (b : Bool) → (if b then halted old else old).log ≡ old.log
  by true = refl
  by false = refl

-- ---- one event

module _ {C : Type 0} (calls : Calls C) where
  abbrev Made : C → List Drive → C → List Crossing → Type 0
  Made old drives new cs = (lines : List raw_output.Shown) × InTurn (Goes calls) old drives new lines × (crossings_of lines ≡ cs)

  -- no call
  none_made : (old new : C) → new ≡ old → Made old [] new []
  none_made old new same = ([], (same, refl), refl)

  -- an event of the raw network, which is done, or refused
  raw_done : (old new : C) (e : RawEvent) (cs : List Crossing) → raw_replay.EventGives calls old e (Ok tt) new → (calls.seen new).log ≡ reverse cs ++ (calls.seen old).log → Brings (calls.seen old) e cs → Made old (Raw e ∷ []) new cs
  raw_done old new e cs gives grown brings =
      let lines : List raw_output.Shown = shown_crossings cs ++ shown_refusal (Ok tt) in
      let once : Happens calls old e new lines = record { outcome = Ok tt; gives = gives; goes_on = tt; crossings = cs; grown = grown; lines = refl } in
      let own : IsShown (calls.seen old) e lines = inl (cs, brings, append-nil (shown_crossings cs)) in
      (lines, in_turn_one (Goes calls) old new (Raw e) lines (once, own), crossings_shown cs (Ok tt))

  raw_refused : (old new : C) (e : RawEvent) (f : CarrierFault) → raw_replay.EventGives calls old e (Err f) new → GoesOn (Err f) → (calls.seen new).log ≡ (calls.seen old).log → Made old (Raw e ∷ []) new []
  raw_refused old new e f gives on same =
      let lines : List raw_output.Shown = Refused f ∷ [] in
      let once : Happens calls old e new lines = record { outcome = Err f; gives = gives; goes_on = on; crossings = []; grown = same; lines = refl } in
      (lines, in_turn_one (Goes calls) old new (Raw e) lines (once, inr (f, refl)), refl)

  abbrev Driven : WorldState C → Event → WorldState C → Type 0
  Driven old e new = (drives : List Drive) × IsDriven calls old e new drives

  -- the event makes this call, or none
  abbrev Calling : WorldState C → Event → List Drive → Type 0
  Calling old e drives = option_to_list (call_of old.seats e) ≡ drives

  driven : (old new : WorldState C) (e : Event) (drives : List Drive) (cs : List Crossing) → new.kept.book.crossings ≡ reverse cs ++ old.kept.book.crossings → Calling old e drives → Made old.carrier drives new.carrier cs → Driven old e new
  driven old new e drives cs log makes (lines, goes, same) =
      (drives, record { makes = sym makes; shown = lines; goes = goes; crossed = log ∙ ap (λ xs. reverse xs ++ old.kept.book.crossings) (sym same) })

  undriven : (old new : WorldState C) (e : Event) → Calling old e [] → new.carrier ≡ old.carrier → new.kept.book.crossings ≡ old.kept.book.crossings → Driven old e new
  undriven old new e makes same log = driven old new e [] [] log makes (none_made old.carrier new.carrier same)

  unchanged : (old new : WorldState C) (e : Event) → Calling old e [] → new ≡ old → Driven old e new
  unchanged old new e makes same = undriven old new e makes (ap (λ (w : WorldState C). w.carrier) same) (ap (λ (w : WorldState C). w.kept.book.crossings) same)

  -- the carrier refused
  refused : (old new : WorldState C) (e : Event) (drives : List Drive) (f : CarrierFault) (c : C) (r : Answer) → Calling old e drives → Made old.carrier drives c [] → Passes f c old r new → Driven old e new
  refused old new e drives f c r makes made passes =
      driven old new e drives [] (ap (λ (w : WorldState C). w.kept.book.crossings) passes.1) makes (subst (λ (d : C). Made old.carrier drives d []) (sym (ap (λ (w : WorldState C). w.carrier) passes.1)) made)

  -- ---- events of the network

  net_driven : (e : NetEvent) (answer : Result (Unit {0}) CarrierFault) (c : C) (old : WorldState C) (r : Answer) (new : WorldState C) → stops r ≡ false → calls.steps old.carrier e answer c → ShowsStep (calls.seen old.carrier) e answer (calls.seen c)
      → NetEnds (calls.seen old.carrier) e answer c old r new → Driven old (Net e) new
  net_driven e (Ok done) c old r new on step shows ends = elim ends [
    | inl d ↦ let cs : List Crossing = step_crossings (calls.seen old.carrier) e in
        subst (λ (w : WorldState C). Driven old (Net e) w) (sym d.1)
        (driven old (changed c cs old) (Net e) (Raw (raw.Net e) ∷ []) (reverse cs) (crossed_log cs old.kept ∙ ap (λ xs. xs ++ old.kept.book.crossings) (sym (reverse-reverse cs))) refl
        (raw_done old.carrier c (raw.Net e) (reverse cs) step (by_crossings (calls.seen old.carrier) (calls.seen c) cs shows ∙ ap (λ xs. xs ++ (calls.seen old.carrier).log) (sym (reverse-reverse cs))) refl))
    | inr x ↦ absurd (halts_stop c old r new x.1 on)
  ]
  net_driven e (Err f) c old r new on step shows ends =
      refused old new (Net e) (Raw (raw.Net e) ∷ []) f c r refl
      (raw_refused old.carrier c (raw.Net e) f step (passes_goes f c old r new ends on) (by_refusal (calls.seen old.carrier) (calls.seen c) f shows)) ends

  quiet_driven : (answer : Result (Unit {0}) CarrierFault) (c : C) (old : WorldState C) (r : Answer) (new : WorldState C) → stops r ≡ false → calls.rounds old.carrier answer c → QuietEnds answer c old r new → Driven old Quiet new
  quiet_driven (Ok done) c old r new on round ends =
      subst (λ (w : WorldState C). Driven old Quiet w) (sym ends.1)
      (driven old (with_carrier c old) Quiet (Round ∷ []) [] refl refl ([], in_turn_one (Goes calls) old.carrier c Round [] (Ok done, round, tt, refl), refl))
  quiet_driven (Err f) c old r new on round ends =
      refused old new Quiet (Round ∷ []) f c r refl (Refused f ∷ [], in_turn_one (Goes calls) old.carrier c Round (Refused f ∷ []) (Err f, round, passes_goes f c old r new ends on, refl), refl) ends

  -- ---- events of a host

  -- a host is down, or isn't there, and nothing changes; or it is up, with its program
  abbrev Found : (NcpState → Type 0) → Option NcpState → WorldState C → WorldState C → Type 0
  Found Gives p old new = ((p ≡ None) × (new ≡ old)) ⊎ ((s : NcpState) × (p ≡ Some s) × Gives s)

  found : (Gives : NcpState → Type 0) (h : Host) (old : WorldState C) (r : Answer) (new : WorldState C) → AtSeat Gives (seat_of h old.seats) old r new → Found Gives (program_of h old.seats) old new
  found Gives h old r new t = by_seat (seat_of h old.seats) t where
    by_program : (p : Option NcpState) → AtProgram Gives p old r new → Found Gives p old new
    by_program None t = inl (refl, t.1)
    by_program (Some s) t = inr (s, refl, t)

    by_seat : (o : Option Seat) → AtSeat Gives o old r new → Found Gives (option_and_then (λ s. s.program) o) old new
    by_seat None t = inl (refl, t.1)
    by_seat (Some seat) t = by_program seat.program t

  offer_end : (h : Host) (s : NcpState) (m : HostMessage) (answer : Result (Unit {0}) CarrierFault) (c : C) (old : WorldState C) (r : Answer) (new : WorldState C) → stops r ≡ false → Calling old (Offer h) (Raw (raw.Out m) ∷ [])
      → calls.offers old.carrier m answer c → ShowsOffer (calls.seen old.carrier) m answer (calls.seen c) → OfferEnds h s m answer c old r new → Driven old (Offer h) new
  offer_end h s m (Ok done) c old r new on makes offer shows ends = elim ends [
    | inl d ↦ let turn = offered s (length old.kept.book.crossings) in
        subst (λ (w : WorldState C). Driven old (Offer h) w) (sym d.1)
        (driven old (world_moved c h (crossing.Out m) turn old) (Offer h) (Raw (raw.Out m) ∷ []) (crossing.Out m ∷ []) (moved_log h (crossing.Out m) turn old c) makes
        (raw_done old.carrier c (raw.Out m) (crossing.Out m ∷ []) offer (by_crossings (calls.seen old.carrier) (calls.seen c) (crossing.Out m ∷ []) shows) refl))
    | inr x ↦ absurd (halts_stop c old r new x on)
  ]
  offer_end h s m (Err f) c old r new on makes offer shows ends =
      refused old new (Offer h) (Raw (raw.Out m) ∷ []) f c r makes
      (raw_refused old.carrier c (raw.Out m) f offer (passes_goes f c old r new ends on) (by_refusal (calls.seen old.carrier) (calls.seen c) f shows)) ends

  offer_driven : (h : Host) (s : NcpState) (o : Option HostMessage) (old : WorldState C) (r : Answer) (new : WorldState C) → stops r ≡ false → Calling old (Offer h) (option_to_list (option_map (λ m. Raw (raw.Out m)) o))
      → OfferGives (shown calls) h s o old r new → Driven old (Offer h) new
  offer_driven h s None old r new on makes gives = unchanged old new (Offer h) makes gives.1
  offer_driven h s (Some m) old r new on makes gives = elim gives [ inl x ↦ absurd (halts_stop old.carrier old r new x on) | inr t ↦ offer_end h s m t.0 t.1 old r new on makes t.2.0 t.2.1 t.3 ]

  offering : (h : Host) (old : WorldState C) (r : Answer) (new : WorldState C) → stops r ≡ false → Found (λ s. OfferGives (shown calls) h s (next_out s) old r new) (program_of h old.seats) old new → Driven old (Offer h) new
  offering h old r new on (inl (none, same)) = unchanged old new (Offer h) (ap (λ (p : Option NcpState). option_to_list (option_map (λ m. Raw (raw.Out m)) (option_and_then next_out p))) none) same
  offering h old r new on (inr (s, is, gives)) =
      offer_driven h s (next_out s) old r new on (ap (λ (p : Option NcpState). option_to_list (option_map (λ m. Raw (raw.Out m)) (option_and_then next_out p))) is) gives

  take_end : (h : Host) (s : NcpState) (answer : Result (Option Inbound) CarrierFault) (c : C) (old : WorldState C) (r : Answer) (new : WorldState C) → stops r ≡ false → Calling old (Take h) (Raw (raw.Take h) ∷ [])
      → calls.takes old.carrier h answer c → ShowsTake (calls.seen old.carrier) h answer (calls.seen c) → TakeEnds h s answer c old r new → Driven old (Take h) new
  take_end h s (Ok None) c old r new on makes take shows ends =
      subst (λ (w : WorldState C). Driven old (Take h) w) (sym ends.1)
      (driven old (with_carrier c old) (Take h) (Raw (raw.Take h) ∷ []) [] refl makes
      (raw_done old.carrier c (raw.Take h) [] (Ok None, take, refl) (by_crossings (calls.seen old.carrier) (calls.seen c) [] shows) (inl refl)))
  take_end h s (Ok (Some i)) c old r new on makes take shows ends = elim ends [
    | inl d ↦ let turn = accepted s i (length old.kept.book.crossings) in
        subst (λ (w : WorldState C). Driven old (Take h) w) (sym d.1)
        (driven old (world_moved c h (crossing_of i) turn old) (Take h) (Raw (raw.Take h) ∷ []) (crossing_of i ∷ []) (moved_log h (crossing_of i) turn old c) makes
        (raw_done old.carrier c (raw.Take h) (crossing_of i ∷ []) (Ok (Some i), take, refl) (by_crossings (calls.seen old.carrier) (calls.seen c) (crossing_of i ∷ []) shows.0) (inr (i, shows.1, refl))))
    | inr x ↦ absurd (halts_stop c old r new x on)
  ]
  take_end h s (Err f) c old r new on makes take shows ends =
      refused old new (Take h) (Raw (raw.Take h) ∷ []) f c r makes
      (raw_refused old.carrier c (raw.Take h) f (Err f, take, refl) (passes_goes f c old r new ends on) (by_refusal (calls.seen old.carrier) (calls.seen c) f shows)) ends

  taking : (h : Host) (old : WorldState C) (r : Answer) (new : WorldState C) → stops r ≡ false → Found (λ s. TakeGives (shown calls) h s old r new) (program_of h old.seats) old new → Driven old (Take h) new
  taking h old r new on (inl (none, same)) = unchanged old new (Take h) (ap (λ (p : Option NcpState). option_to_list (option_map (λ s. Raw (raw.Take h)) p)) none) same
  taking h old r new on (inr (s, is, t)) = take_end h s t.0 t.1 old r new on (ap (λ (p : Option NcpState). option_to_list (option_map (λ s. Raw (raw.Take h)) p)) is) t.2.0 t.2.1 t.3

  -- what a user asks for, and what begins
  ask_driven : (e : Event) (h : Host) (q : Request) (s : NcpState) (o : Option NcpFault) (old : WorldState C) (r : Answer) (new : WorldState C) → Calling old e [] → stops r ≡ false → AskGives h q s o old r new → Driven old e new
  ask_driven e h q s (Some f) old r new makes on gives = unchanged old new e makes gives.1
  ask_driven e h q s None old r new makes on gives = elim gives [
    | inl d ↦ subst (λ (w : WorldState C). Driven old e w) (sym d.1) (undriven old (served_at h q s old) e makes refl (served_log h q s old))
    | inr x ↦ absurd (halts_stop old.carrier old r new x on)
  ]

  type_driven : (h : Host) (line : List ℕ) (s : NcpState) (o : Option ℕ) (old : WorldState C) (r : Answer) (new : WorldState C) → stops r ≡ false → TypeGives h line s o old r new → Driven old (Typed h line) new
  type_driven h line s None old r new on gives = unchanged old new (Typed h line) refl gives.1
  type_driven h line s (Some socket) old r new on gives =
      ask_driven (Typed h line) h (request.Send socket (line_bits line)) s (refusal s (request.Send socket (line_bits line))) old r new refl on gives

  begun_driven : (e : Event) (done old : WorldState C) (r : Answer) (new : WorldState C) → Calling old e [] → stops r ≡ false → done.carrier ≡ old.carrier → done.kept.book.crossings ≡ old.kept.book.crossings → DoesOrHalts done old r new → Driven old e new
  begun_driven e done old r new makes on same log ends = elim ends [
    | inl d ↦ subst (λ (w : WorldState C). Driven old e w) (sym d.1) (undriven old done e makes same log)
    | inr x ↦ absurd (halts_stop old.carrier old r new x on)
  ]

  -- an event by which no call is made
  at_host : (e : Event) (Gives : NcpState → Type 0) (h : Host) (old : WorldState C) (r : Answer) (new : WorldState C) → Calling old e [] → ((s : NcpState) → Gives s → Driven old e new) → AtSeat Gives (seat_of h old.seats) old r new → Driven old e new
  at_host e Gives h old r new makes k t = elim (found Gives h old r new t) [ inl none ↦ unchanged old new e makes none.1 | inr up ↦ k up.0 up.2 ]

  -- ---- any event

  event_driven : (e : Event) (old : WorldState C) (r : Answer) (new : WorldState C) → stops r ≡ false → EventGives (shown calls) old e r new → Driven old e new
  event_driven (Net e) old r new on t = net_driven e t.0 t.1 old r new on t.2.0 t.2.1 t.3
  event_driven Quiet old r new on t = quiet_driven t.0 t.1 old r new on t.2.0 t.3
  event_driven (Offer h) old r new on t = offering h old r new on (found (λ s. OfferGives (shown calls) h s (next_out s) old r new) h old r new t)
  event_driven (Take h) old r new on t = taking h old r new on (found (λ s. TakeGives (shown calls) h s old r new) h old r new t)
  event_driven (Ask h q) old r new on t =
      at_host (Ask h q) (λ s. AskGives h q s (refusal s q) old r new) h old r new refl (λ s g. ask_driven (Ask h q) h q s (refusal s q) old r new refl on g) t
  event_driven (Server h listen base) old r new on t =
      at_host (Server h listen base) (λ s. DoesOrHalts (with_server h listen base s old) old r new) h old r new refl
      (λ s g. begun_driven (Server h listen base) (with_server h listen base s old) old r new refl on refl (asked_log h (services.server_begun listen base (services_of h old.services) (opening_desk h (noticed old) s)).1.asked old.kept) g) t
  event_driven (User h peer listen own) old r new on t =
      at_host (User h peer listen own) (λ s. DoesOrHalts (with_user h peer listen own s old) old r new) h old r new refl
      (λ s g. begun_driven (User h peer listen own) (with_user h peer listen own s old) old r new refl on refl (asked_log h (services.user_begun peer listen own (services_of h old.services) (opening_desk h (noticed old) s)).1.asked old.kept) g) t
  event_driven (Typed h line) old r new on t =
      at_host (Typed h line) (λ s. TypeGives h line s (services_of h old.services).typing old r new) h old r new refl (λ s g. type_driven h line s (services_of h old.services).typing old r new on g) t
  event_driven (Out m) old r new on t = unchanged old new (Out m) refl t.1

  -- a world in which an event goes well has not run out of memory
  pub turn_runs : (e : Event) (old : WorldState C) (r : Answer) (new : WorldState C) → stops r ≡ false → TurnGives (shown calls) old e r new → EventGives (shown calls) old e r new
  turn_runs e old r new on h = by old.stopped h where
    by : (b : Bool) → MatchBool b (Refuses (Carrier fault.Stopped) old r new) (EventGives (shown calls) old e r new) → EventGives (shown calls) old e r new
    by true h = absurd (false≢true (sym on ∙ ap stops h.0))
    by false h = h

  pub turn_driven : (e : Event) (old : WorldState C) (r : Answer) (new : WorldState C) → stops r ≡ false → TurnGives (shown calls) old e r new → Driven old e new
  turn_driven e old r new on h = event_driven e old r new on (turn_runs e old r new on h)

  -- ---- events in turn

  all_driven : (events : List Event) (old new : WorldState C) (lines : List Shown) → InTurn (HappensInCalm (shown calls)) old events new lines → (drives : List Drive) × InTurn (IsDriven calls) old events new drives
  all_driven [] old new lines h = ([], (h.0, refl))
  all_driven (e ∷ events) old new lines (mid, first, rest, one, more, all) =
      let now : Driven old e mid = turn_driven e old one.outcome mid one.goes_on one.gives in
      let later : (drives : List Drive) × InTurn (IsDriven calls) mid events new drives = all_driven events mid new rest more in
      (now.0 ++ later.0, (mid, now.0, later.0, now.1, later.1, refl))

  pub script_driven : (e : WorldEvent) (old new : WorldState C) (lines : List Shown) → old.strangers ≡ [] → world_replay.Happens (shown calls) old e new lines → (drives : List Drive) × IsDrivenIn calls old e new drives
  script_driven (script.Happen e) old new lines none h =
      let now : Driven old e new = turn_driven e old h.outcome new h.goes_on (alone (shown calls) old h.outcome new none e h.gives) in
      (now.0, (e ∷ [], refl, in_turn_one (IsDriven calls) old new e now.0 now.1))
  script_driven (script.Calm rounds) old new lines none h =
      let (events, alike, quiet, passes) = calm_events (shown calls) rounds old new lines h in
      let (drives, driven) = all_driven events old new lines passes in
      (drives, (events, (alike, quiet), driven))

  -- ---- the calls in turn

  maybe_call : {T : Type 0} (call : T → Drive) → ((x : T) → IsCall (call x)) → (o : Option T) → All IsCall (option_to_list (option_map call o))
  maybe_call call is None = All-nil IsCall
  maybe_call call is (Some x) = All-cons IsCall (call x) [] (is x) (All-nil IsCall)

  only_calls : (seats : List Seat) (e : Event) → All IsCall (option_to_list (call_of seats e))
  only_calls seats (Net e) = All-cons IsCall (Raw (raw.Net e)) [] tt (All-nil IsCall)
  only_calls seats Quiet = All-cons IsCall Round [] tt (All-nil IsCall)
  only_calls seats (Offer h) = maybe_call (λ m. Raw (raw.Out m)) (λ m. tt) (option_and_then next_out (program_of h seats))
  only_calls seats (Take h) = maybe_call (λ s. Raw (raw.Take h)) (λ s. tt) (program_of h seats)
  only_calls seats (Ask h q) = All-nil IsCall
  only_calls seats (Server h listen base) = All-nil IsCall
  only_calls seats (User h peer listen own) = All-nil IsCall
  only_calls seats (Typed h line) = All-nil IsCall
  only_calls seats (Out m) = All-nil IsCall

  drives_none : (old new : WorldState C) → new ≡ old → Drives calls old new []
  drives_none old new same = record {
    calls_only = All-nil IsCall;
    shown = [];
    goes = (ap (λ (w : WorldState C). w.carrier) same, refl);
    crossed = ap (λ (w : WorldState C). w.kept.book.crossings) same;
  }

  drives_once : (e : Event) (old new : WorldState C) (drives : List Drive) → IsDriven calls old e new drives → Drives calls old new drives
  drives_once e old new drives h = record {
    calls_only = subst (All IsCall) (sym h.makes) (only_calls old.seats e);
    shown = h.shown;
    goes = h.goes;
    crossed = h.crossed;
  }

  drives_then : (old mid new : WorldState C) (xs ys : List Drive) → Drives calls old mid xs → Drives calls mid new ys → Drives calls old new (xs ++ ys)
  drives_then old mid new xs ys h k = record {
    calls_only = All-append IsCall xs ys h.calls_only k.calls_only;
    shown = h.shown ++ k.shown;
    goes = in_turn_then (Goes calls) old.carrier mid.carrier new.carrier xs ys h.shown k.shown h.goes k.goes;
    crossed = grown_more old.kept.book.crossings mid.kept.book.crossings new.kept.book.crossings (crossings_of h.shown) (crossings_of k.shown) h.crossed k.crossed
        ∙ ap (λ cs. reverse cs ++ old.kept.book.crossings) (sym (crossings_then h.shown k.shown));
  }

  -- where each of some events drives the carrier, all of them do, one after another
  drives_all : {E : Type 0} (Driving : Happening (WorldState C) E Drive) → ((e : E) (old new : WorldState C) (drives : List Drive) → Driving old e new drives → Drives calls old new drives)
      → (events : List E) (old new : WorldState C) (drives : List Drive) → InTurn Driving old events new drives → Drives calls old new drives
  drives_all Driving one [] old new drives h = subst (λ (ds : List Drive). Drives calls old new ds) (sym h.1) (drives_none old new h.0)
  drives_all Driving one (e ∷ events) old new drives (mid, first, rest, now, later, all) =
      subst (λ (ds : List Drive). Drives calls old new ds) (sym all) (drives_then old mid new first rest (one e old mid first now) (drives_all Driving one events mid new rest later))

  pub drives_in : (e : WorldEvent) (old new : WorldState C) (drives : List Drive) → IsDrivenIn calls old e new drives → Drives calls old new drives
  drives_in e old new drives (events, course, driven) = drives_all (IsDriven calls) drives_once events old new drives driven

  replay_driven : (events : List WorldEvent) (old new : WorldState C) (lines : List Shown) → old.strangers ≡ [] → Replays (shown calls) old events new lines → (drives : List Drive) × InTurn (IsDrivenIn calls) old events new drives
  replay_driven [] old new lines none h = ([], (h.0, refl))
  replay_driven (e ∷ events) old new lines none (mid, first, rest, one, more, all) =
      let now : (drives : List Drive) × IsDrivenIn calls old e mid drives = script_driven e old mid first none one in
      let later : (drives : List Drive) × InTurn (IsDrivenIn calls) mid events new drives = replay_driven events mid new rest (script_same (shown calls) e old one.outcome mid one.gives ∙ none) more in
      (now.0 ++ later.0, (mid, now.0, later.0, now.1, later.1, refl))

  pub replay_drives : (events : List WorldEvent) (old new : WorldState C) (lines : List Shown) → old.strangers ≡ [] → Replays (shown calls) old events new lines
      → (drives : List Drive) × InTurn (IsDrivenIn calls) old events new drives × Drives calls old new drives
  replay_drives events old new lines none h =
      let (drives, driven) = replay_driven events old new lines none h in
      (drives, driven, drives_all (IsDrivenIn calls) drives_in events old new drives driven)
