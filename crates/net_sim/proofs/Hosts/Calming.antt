-- A calm, part by part: a host's takings and offers, its turn, a round, and the rounds.
use Rattle.net_sim.proofs.Common.{inl, inr, ◌≡◌, ℕ, ◌+◌, ◌-◌, ◌<◌, ◌≤◌, Bool, true, false, ◌||◌, zero, suc, nat_lt, cond, List, [], ◌∷◌, length, map, filter, drop, find, if◌then◌else◌, add-one, Option, Some, None, Ok, Err, refl, ap, sym, subst, ◌∙◌, arith, length-map, MatchBool, Host, same_host, Calls, is_memory, is_halt, CarrierFault, Inbound, HostMessage, accepted, NcpState, next_out, offered, IsOnce, hosts_of, WorldState, WorldFault, Carrier, Program, Quiet, Offer, Seat, seat_of, seated, services_of, noticed, Refuses, Does, Halts, OfferEnds, OfferGives, TakeEnds, TakeGives, QuietEnds, AtProgram, AtSeat, EventGives, TurnGives, wants_memory, stops, Repeats, TurnsOf, up_in, Calms, CalmGives}
use Rattle.std.proofs.Common.{is_some, slice_get, lt-ltb, le-ltb, Result}
use Rattle.std.proofs.lemmas.List.{drop_all}
use Rattle.interface.specs.declared.carrier.CarrierFault.TheVariants as fault
use Rattle.net_sim.specs.Inside.Calm.{CalmTurn, Round}
use Rattle.net_sim.specs.World.{Event, HasProgram, NoProgram, Passes, Take, turn_of}
use Rattle.net_sim.proofs.Hosts.SeatLemmas.{absent}

abbrev Answer : Type 0
Answer = Result (Unit {0}) WorldFault

-- ---- what is written of the hosts: which there are, and which of them are up

pub record Standing : Type 0 where
  pub host : Host
  pub up : Bool

abbrev pub standing : Seat → Standing
standing s = record { host = s.host; up = is_some s.program }

abbrev one_standing : Host → Bool → Standing
one_standing h b = record { host = h; up = b }

abbrev pub standings : List Seat → List Standing
standings seats = map standing seats

abbrev names_of : List Standing → List Host
names_of xs = map (λ x. x.host) xs

abbrev pub ups_of : List Standing → List Host
ups_of xs = map (λ x. x.host) (filter (λ x. x.up) xs)

names_same : (seats : List Seat) → hosts_of seats ≡ names_of (standings seats)
names_same [] = refl
names_same (s ∷ seats) = ap (λ (hs : List Host). s.host ∷ hs) (names_same seats)

up_by : (s : Seat) (seats : List Seat) (b : Bool) → is_some s.program ≡ b → up_in seats ≡ ups_of (standings seats) → up_in (s ∷ seats) ≡ ups_of (standings (s ∷ seats))
up_by s seats true e rest = rw e (ap (λ (hs : List Host). s.host ∷ hs) rest)
up_by s seats false e rest = rw e rest

ups_same : (seats : List Seat) → up_in seats ≡ ups_of (standings seats)
ups_same [] = refl
ups_same (s ∷ seats) = up_by s seats (is_some s.program) refl (ups_same seats)

once_still : (old new : List Seat) → standings new ≡ standings old → IsOnce (hosts_of old) → IsOnce (hosts_of new)
once_still old new same once = subst IsOnce (names_same old ∙ ap names_of (sym same) ∙ sym (names_same new)) once

-- a host that is up gets another program
same_by : (h : Host) (s p : NcpState) (x seat : Seat) (seats : List Seat) → IsOnce (hosts_of (x ∷ seats)) → seat.program ≡ Some s → (b : Bool) → same_host h x.host ≡ b
    → cond b (Some x) (find (λ y. same_host h y.host) seats) ≡ Some seat
    → (find (λ y. same_host h y.host) seats ≡ Some seat → standings (seated h (Some p) seats) ≡ standings seats)
    → standings (seated h (Some p) (x ∷ seats)) ≡ standings (x ∷ seats)
same_by h s p x seat seats once is true e found rest =
    let mine : x ≡ seat = cc in
    let up : is_some x.program ≡ true = ap (λ (y : Seat). is_some y.program) mine ∙ ap (λ (o : Option NcpState). is_some o) is in
    let others : seated h (Some p) seats ≡ seats = absent h (Some p) seats (once.0 h e) in
    rw (e, others) (ap (λ (b : Bool). one_standing x.host b ∷ standings seats) (sym up))
same_by h s p x seat seats once is false e found rest = rw e (ap (λ (xs : List Standing). standing x ∷ xs) (rest found))

seated_same : (h : Host) (s p : NcpState) (seat : Seat) (seats : List Seat) → IsOnce (hosts_of seats) → seat_of h seats ≡ Some seat → seat.program ≡ Some s
    → standings (seated h (Some p) seats) ≡ standings seats
seated_same h s p seat [] once found is = refl
seated_same h s p seat (x ∷ seats) once found is =
    same_by h s p x seat seats once is (same_host h x.host) refl found (λ f. seated_same h s p seat seats once.1 f is)

-- the seat at a place, and those from there on
pub record Here (seats : List Seat) (place : ℕ) : Type 0 where
  pub seat : Seat
  pub got : slice_get seats place ≡ Some seat
  pub rest : drop place (standings seats) ≡ standing seat ∷ drop (suc place) (standings seats)

pub here : (seats : List Seat) (place : ℕ) → place < length seats → Here seats place
here [] place lt = absurd (omega (arith, lt))
here (x ∷ seats) zero lt = record { seat = x; got = refl; rest = refl }
here (x ∷ seats) (suc place) lt = let h : Here seats place = here seats place (omega (arith, lt)) in record { seat = h.seat; got = h.got; rest = h.rest }

-- one event that doesn't stop all

pub memory_stops : (f : WorldFault) → wants_memory f ≡ true → stops (Err f) ≡ true
memory_stops (Carrier f) is = rw is refl
memory_stops (Program f) is = is
memory_stops NoProgram is = is
memory_stops HasProgram is = is

apart : (b : Bool) → b ≡ true → b ≡ false → ⊥
apart true a b = absurd (cc)
apart false a b = absurd (cc)

or_left : (a b : Bool) → (a || b) ≡ false → a ≡ false
or_left true b h = absurd (cc)
or_left false b h = refl

module _ {C : Type 0} (calls : Calls C) where
  pub no_halt : {P : Type 0} (c : C) (old : WorldState C) (r : Answer) (new : WorldState C) → stops r ≡ false → Halts c old r new → P
  no_halt c old r new on h = absurd (apart (stops r) (ap stops h.answer ∙ memory_stops h.fault h.memory) on)

  -- the hosts are as they were, and the world runs on
  abbrev Same : WorldState C → WorldState C → Type 0
  Same old new = (standings new.seats ≡ standings old.seats) × (new.stopped ≡ old.stopped)

  equal_same : (old new : WorldState C) → new ≡ old → Same old new
  equal_same old new e = (ap (λ (w : WorldState C). standings w.seats) e, ap (λ (w : WorldState C). w.stopped) e)

  passes_same : (f : CarrierFault) (c : C) (old : WorldState C) (r : Answer) (new : WorldState C) → old.stopped ≡ false → stops r ≡ false → Passes f c old r new → Same old new
  passes_same f c old r new running on h =
      let calm : is_memory f ≡ false = or_left (is_memory f) (is_halt f) (ap stops (sym h.0) ∙ on) in
      (ap (λ (w : WorldState C). standings w.seats) h.1, ap (λ (w : WorldState C). w.stopped) h.1 ∙ calm ∙ sym running)

  program_same : (Gives : NcpState → Type 0) (o : Option NcpState) (old : WorldState C) (r : Answer) (new : WorldState C) → ((s : NcpState) → o ≡ Some s → Gives s → Same old new) → AtProgram Gives o old r new → Same old new
  program_same Gives None old r new k h = equal_same old new h.1
  program_same Gives (Some s) old r new k h = k s refl h

  seat_same : (Gives : NcpState → Type 0) (o : Option Seat) (old : WorldState C) (r : Answer) (new : WorldState C) → ((seat : Seat) (s : NcpState) → o ≡ Some seat → seat.program ≡ Some s → Gives s → Same old new)
      → AtSeat Gives o old r new → Same old new
  seat_same Gives None old r new k h = equal_same old new h.1
  seat_same Gives (Some seat) old r new k h = program_same Gives seat.program old r new (λ s is g. k seat s refl is g) h

  take_same : (h : Host) (s : NcpState) (seat : Seat) (answer : Result (Option Inbound) CarrierFault) (c : C) (old : WorldState C) (r : Answer) (new : WorldState C) → old.stopped ≡ false → stops r ≡ false
      → IsOnce (hosts_of old.seats) → seat_of h old.seats ≡ Some seat → seat.program ≡ Some s → TakeEnds h s answer c old r new → Same old new
  take_same h s seat (Ok None) c old r new running on once found is ends = (ap (λ (w : WorldState C). standings w.seats) ends.1, ap (λ (w : WorldState C). w.stopped) ends.1)
  take_same h s seat (Ok (Some i)) c old r new running on once found is (inl d) =
      (ap (λ (w : WorldState C). standings w.seats) d.1 ∙ seated_same h s (turn_of h (noticed old) (services_of h old.services) (accepted s i (length old.kept.book.crossings))).1.program seat old.seats once found is, ap (λ (w : WorldState C). w.stopped) d.1)
  take_same h s seat (Ok (Some i)) c old r new running on once found is (inr x) = no_halt c old r new on x
  take_same h s seat (Err f) c old r new running on once found is ends = passes_same f c old r new running on ends

  sent_same : (h : Host) (s : NcpState) (seat : Seat) (m : HostMessage) (answer : Result (Unit {0}) CarrierFault) (c : C) (old : WorldState C) (r : Answer) (new : WorldState C) → old.stopped ≡ false → stops r ≡ false
      → IsOnce (hosts_of old.seats) → seat_of h old.seats ≡ Some seat → seat.program ≡ Some s → OfferEnds h s m answer c old r new → Same old new
  sent_same h s seat m (Ok done) c old r new running on once found is (inl d) =
      (ap (λ (w : WorldState C). standings w.seats) d.1 ∙ seated_same h s (turn_of h (noticed old) (services_of h old.services) (offered s (length old.kept.book.crossings))).1.program seat old.seats once found is, ap (λ (w : WorldState C). w.stopped) d.1)
  sent_same h s seat m (Ok done) c old r new running on once found is (inr x) = no_halt c old r new on x
  sent_same h s seat m (Err f) c old r new running on once found is ends = passes_same f c old r new running on ends

  offer_same : (h : Host) (s : NcpState) (seat : Seat) (o : Option HostMessage) (old : WorldState C) (r : Answer) (new : WorldState C) → old.stopped ≡ false → stops r ≡ false
      → IsOnce (hosts_of old.seats) → seat_of h old.seats ≡ Some seat → seat.program ≡ Some s → OfferGives calls h s o old r new → Same old new
  offer_same h s seat None old r new running on once found is gives = equal_same old new gives.1
  offer_same h s seat (Some m) old r new running on once found is (inl x) = no_halt old.carrier old r new on x
  offer_same h s seat (Some m) old r new running on once found is (inr t) = sent_same h s seat m t.0 t.1 old r new running on once found is t.3

  -- a taking and an offer
  pub data Calmly : Event → Type 0 where
    Takes : (h : Host) → Calmly (Take h)
    Offers : (h : Host) → Calmly (Offer h)

  event_same : (e : Event) (old : WorldState C) (r : Answer) (new : WorldState C) → Calmly e → old.stopped ≡ false → stops r ≡ false → IsOnce (hosts_of old.seats) → EventGives calls old e r new → Same old new
  event_same e old r new (Takes h) running on once t =
      seat_same (λ s. TakeGives calls h s old r new) (seat_of h old.seats) old r new (λ seat s found is g. take_same h s seat g.0 g.1 old r new running on once found is g.3) t
  event_same e old r new (Offers h) running on once t =
      seat_same (λ s. OfferGives calls h s (next_out s) old r new) (seat_of h old.seats) old r new (λ seat s found is g. offer_same h s seat (next_out s) old r new running on once found is g) t

  -- an event that doesn't stop all finds the world running
  running_by : (P Q : Type 0) (old : WorldState C) (r : Answer) (new : WorldState C) → stops r ≡ false → (old.stopped ≡ false → P → Q)
      → (b : Bool) → old.stopped ≡ b → MatchBool b (Refuses (Carrier fault.Stopped) old r new) P → Q
  running_by P Q old r new on k true e h = absurd (apart (stops r) (ap stops h.0) on)
  running_by P Q old r new on k false e h = k e h

  step_same : (e : Event) (old : WorldState C) (r : Answer) (new : WorldState C) → Calmly e → stops r ≡ false → IsOnce (hosts_of old.seats) → TurnGives calls old e r new → standings new.seats ≡ standings old.seats
  step_same e old r new way on once h =
      running_by (EventGives calls old e r new) (standings new.seats ≡ standings old.seats) old r new on (λ running g. (event_same e old r new way running on once g).0) old.stopped refl h

  -- and a quiet round leaves it running
  quiet_runs : (answer : Result (Unit {0}) CarrierFault) (c : C) (old : WorldState C) (r : Answer) (new : WorldState C) → old.stopped ≡ false → stops r ≡ false → QuietEnds answer c old r new → new.stopped ≡ false
  quiet_runs (Ok done) c old r new running on ends = ap (λ (w : WorldState C). w.stopped) ends.1 ∙ running
  quiet_runs (Err f) c old r new running on ends = (passes_same f c old r new running on ends).1 ∙ running

  pub rest_runs : (old : WorldState C) (r : Answer) (new : WorldState C) → stops r ≡ false → TurnGives calls old Quiet r new → new.stopped ≡ false
  rest_runs old r new on h = running_by (EventGives calls old Quiet r new) (new.stopped ≡ false) old r new on (λ running t. quiet_runs t.0 t.1 old r new running on t.3) old.stopped refl h

  -- ---- an event again and again

  again_by : (P Q : Type 0) (answer : Answer) (mid : WorldState C) (r : Answer) (new : WorldState C) → stops r ≡ false → (stops answer ≡ false → P → Q)
      → (b : Bool) → stops answer ≡ b → MatchBool b ((r ≡ answer) × (new ≡ mid)) P → Q
  again_by P Q answer mid r new on k true e h = absurd (apart (stops r) (ap stops h.0 ∙ e) on)
  again_by P Q answer mid r new on k false e h = k e h

  more_by : (P Q : Type 0) (mid : WorldState C) (r : Answer) (new : WorldState C) → (P → Q) → (new ≡ mid → Q) → (b : Bool) → MatchBool b P (Does mid r new) → Q
  more_by P Q mid r new k l true h = k h
  more_by P Q mid r new k l false h = l h.1

  repeats_same : (e : Event) (times : ℕ) (old : WorldState C) (r : Answer) (new : WorldState C) → Calmly e → stops r ≡ false → IsOnce (hosts_of old.seats) → Repeats calls e times old r new
      → standings new.seats ≡ standings old.seats
  repeats_same e zero old r new way on once h = ap (λ (w : WorldState C). standings w.seats) h.1
  repeats_same e (suc times) old r new way on once h =
      let Again : Type 0 = MatchBool (nat_lt (length old.kept.book.crossings) (length h.1.kept.book.crossings)) (Repeats calls e times h.1 r new) (Does h.1 r new) in
      again_by Again (standings new.seats ≡ standings old.seats) h.0 h.1 r new on
      (λ is a. (let first : standings h.1.seats ≡ standings old.seats = step_same e old h.0 h.1 way is once h.2 in
      more_by (Repeats calls e times h.1 r new) (standings new.seats ≡ standings old.seats) h.1 r new
      (λ g. repeats_same e times h.1 r new way on (once_still old.seats h.1.seats first once) g ∙ first)
      (λ n. ap (λ (w : WorldState C). standings w.seats) n ∙ first)
      (nat_lt (length old.kept.book.crossings) (length h.1.kept.book.crossings)) a)) (stops h.0) refl h.3

  -- this many times are done, and what is left makes the whole
  abbrev pub Repeated : Event → ℕ → ℕ → WorldState C → WorldState C → Type 0
  Repeated e total count begin now = (r : Answer) (new : WorldState C) → Repeats calls e (total - count) now r new → Repeats calls e total begin r new

  one_left : (e : Event) (total count : ℕ) (begin now : WorldState C) → count < total → Repeated e total count begin now
      → (r : Answer) (new : WorldState C) → Repeats calls e (suc (total - (count + 1))) now r new → Repeats calls e total begin r new
  one_left e total count begin now lt so r new h = let fewer : suc (total - (count + 1)) ≡ total - count = omega (arith, lt) in so r new (subst (λ (n : ℕ). Repeats calls e n now r new) fewer h)

  one_repeated : (e : Event) (total count : ℕ) (begin old mid : WorldState C) (answer : Answer) → count < total → Repeated e total count begin old → TurnGives calls old e answer mid → stops answer ≡ false
      → length old.kept.book.crossings < length mid.kept.book.crossings → Repeated e total (count + 1) begin mid
  one_repeated e total count begin old mid answer lt so step on grew r new h =
      let more : nat_lt (length old.kept.book.crossings) (length mid.kept.book.crossings) ≡ true = lt-ltb (length old.kept.book.crossings) (length mid.kept.book.crossings) grew in
      one_left e total count begin old lt so r new (answer, mid, step, rw (on, more) h)

  pub none_repeated : (e : Event) (total count : ℕ) (begin old mid : WorldState C) (answer : Answer) → count < total → Repeated e total count begin old → TurnGives calls old e answer mid → stops answer ≡ false
      → length mid.kept.book.crossings ≤ length old.kept.book.crossings → Repeats calls e total begin (Ok tt) mid
  none_repeated e total count begin old mid answer lt so step on same =
      let no : nat_lt (length old.kept.book.crossings) (length mid.kept.book.crossings) ≡ false = le-ltb (length old.kept.book.crossings) (length mid.kept.book.crossings) same in
      one_left e total count begin old lt so (Ok tt) mid (answer, mid, step, rw (on, no) (refl, refl))

  -- by the counts of crossings before and after
  module _ (e : Event) (total count : ℕ) (begin old mid : WorldState C) (answer : Answer) (lt : count < total)
      (so : Repeated e total count begin old) (step : TurnGives calls old e answer mid) (on : stops answer ≡ false)
      (n m : ℕ) (before : n ≡ length old.kept.book.crossings) (after : m ≡ length mid.kept.book.crossings) where
    pub one_counted : n < m → Repeated e total (count + 1) begin mid
    one_counted grew = one_repeated e total count begin old mid answer lt so step on (omega (arith, before, after, grew))

    pub none_counted : m ≤ n → Repeats calls e total begin (Ok tt) mid
    none_counted same = none_repeated e total count begin old mid answer lt so step on (omega (arith, before, after, same))

  pub stop_repeated : (e : Event) (total count : ℕ) (begin old mid : WorldState C) (answer : Answer) → count < total → Repeated e total count begin old → TurnGives calls old e answer mid → stops answer ≡ true
      → Repeats calls e total begin answer mid
  stop_repeated e total count begin old mid answer lt so step is = one_left e total count begin old lt so answer mid (answer, mid, step, rw is (refl, refl))

  pub all_repeated : (e : Event) (total count : ℕ) (begin now : WorldState C) → total ≤ count → Repeated e total count begin now → Repeats calls e total begin (Ok tt) now
  all_repeated e total count begin now le so =
      let none : 0 ≡ total - count = omega (arith, le) in so (Ok tt) now (subst (λ (n : ℕ). Repeats calls e n now (Ok tt) now) none (refl, refl))

  -- ---- a host's turn

  turn_same : (h : Host) (old : WorldState C) (r : Answer) (new : WorldState C) → stops r ≡ false → IsOnce (hosts_of old.seats) → CalmTurn calls h old r new → standings new.seats ≡ standings old.seats
  turn_same h old r new on once t =
      again_by (Repeats calls (Offer h) 32 t.1 r new) (standings new.seats ≡ standings old.seats) t.0 t.1 r new on
      (λ is g. (let first : standings t.1.seats ≡ standings old.seats = repeats_same (Take h) 16 old t.0 t.1 (Takes h) is once t.2 in
      repeats_same (Offer h) 32 t.1 r new (Offers h) on (once_still old.seats t.1.seats first once) g ∙ first)) (stops t.0) refl t.3

  pub stop_turn : (h : Host) (old taken : WorldState C) (answer : Answer) → Repeats calls (Take h) 16 old answer taken → stops answer ≡ true → CalmTurn calls h old answer taken
  stop_turn h old taken answer took is = (answer, taken, took, rw is (refl, refl))

  pub whole_turn : (h : Host) (old taken new : WorldState C) (answer r : Answer) → Repeats calls (Take h) 16 old answer taken → stops answer ≡ false → Repeats calls (Offer h) 32 taken r new → CalmTurn calls h old r new
  whole_turn h old taken new answer r took on sent = (answer, taken, took, rw on sent)

  turn_on : (h : Host) (hosts : List Host) (old sent : WorldState C) (second : Answer) (r : Answer) (new : WorldState C) → stops second ≡ false → TurnsOf calls hosts sent r new
      → (first : Answer) (taken : WorldState C) → Repeats calls (Take h) 16 old first taken → (b : Bool) → stops first ≡ b → MatchBool b ((second ≡ first) × (sent ≡ taken)) (Repeats calls (Offer h) 32 taken second sent)
      → TurnsOf calls (h ∷ hosts) old r new
  turn_on h hosts old sent second r new on rest first taken took true e t = absurd (apart (stops second) (ap stops t.0 ∙ e) on)
  turn_on h hosts old sent second r new on rest first taken took false e t = (first, taken, took, rw e (second, sent, t, rw on rest))

  turn_stops : (h : Host) (hosts : List Host) (old sent : WorldState C) (second : Answer) → stops second ≡ true
      → (first : Answer) (taken : WorldState C) → Repeats calls (Take h) 16 old first taken → (b : Bool) → stops first ≡ b → MatchBool b ((second ≡ first) × (sent ≡ taken)) (Repeats calls (Offer h) 32 taken second sent)
      → TurnsOf calls (h ∷ hosts) old second sent
  turn_stops h hosts old sent second is first taken took true e t = (first, taken, took, rw e t)
  turn_stops h hosts old sent second is first taken took false e t = (first, taken, took, rw e (second, sent, t, rw is (refl, refl)))

  -- ---- a round

  -- the hosts whose seats are before this place have had their turns
  pub record Turned (begin : WorldState C) (place : ℕ) (now : WorldState C) : Type 0 where
    pub same : standings now.seats ≡ standings begin.seats
    pub once : IsOnce (hosts_of begin.seats)
    pub left : (r : Answer) (new : WorldState C) → TurnsOf calls (ups_of (drop place (standings begin.seats))) now r new → TurnsOf calls (up_in begin.seats) begin r new

  pub none_turned : (w : WorldState C) → IsOnce (hosts_of w.seats) → Turned w 0 w
  none_turned w once = record { same = refl; once = once; left = λ r new h. subst (λ (hosts : List Host). TurnsOf calls hosts w r new) (sym (ups_same w.seats)) h }

  abbrev Ends : WorldState C → ℕ → WorldState C → Answer → WorldState C → Type 0
  Ends begin place now r new = TurnsOf calls (ups_of (drop place (standings begin.seats))) now r new

  up_ends : (begin now : WorldState C) (place : ℕ) (seat : Seat) (host : Host) (r : Answer) (new : WorldState C) → drop place (standings begin.seats) ≡ standing seat ∷ drop (suc place) (standings begin.seats)
      → (b : Bool) → is_some seat.program ≡ b → ◌≡◌ {A = Option Host} (Some host) (if b then Some seat.host else None)
      → TurnsOf calls (host ∷ ups_of (drop (place + 1) (standings begin.seats))) now r new → Ends begin place now r new
  up_ends begin now place seat host r new rest true e is h =
      let mine : host ≡ seat.host = cc in
      let all : host ∷ ups_of (drop (place + 1) (standings begin.seats)) ≡ ups_of (drop place (standings begin.seats)) =
      rw (rest, e, add-one place) (ap (λ (x : Host). x ∷ ups_of (drop (suc place) (standings begin.seats))) mine) in
      subst (λ (hosts : List Host). TurnsOf calls hosts now r new) all h
  up_ends begin now place seat host r new rest false e is h = absurd (cc)

  down_ends : (begin now : WorldState C) (place : ℕ) (seat : Seat) (r : Answer) (new : WorldState C) → drop place (standings begin.seats) ≡ standing seat ∷ drop (suc place) (standings begin.seats)
      → (b : Bool) → is_some seat.program ≡ b → ◌≡◌ {A = Option Host} None (if b then Some seat.host else None)
      → Ends begin (place + 1) now r new → Ends begin place now r new
  down_ends begin now place seat r new rest true e is h = absurd (cc)
  down_ends begin now place seat r new rest false e is h =
      let all : ups_of (drop (place + 1) (standings begin.seats)) ≡ ups_of (drop place (standings begin.seats)) = rw (rest, e, add-one place) refl in
      subst (λ (hosts : List Host). TurnsOf calls hosts now r new) all h

  -- what is found at a seat
  abbrev pub Found : List Seat → ℕ → Option Host → Type 0
  Found seats place o = (seat : Seat) → slice_get seats place ≡ Some seat → o ≡ (if is_some seat.program then Some seat.host else None)

  rest_of : (begin now : WorldState C) (place : ℕ) → standings now.seats ≡ standings begin.seats → (h : Here now.seats place) → drop place (standings begin.seats) ≡ standing h.seat ∷ drop (suc place) (standings begin.seats)
  rest_of begin now place same h =
      ap (λ (xs : List Standing). drop place xs) (sym same) ∙ h.rest ∙ ap (λ (xs : List Standing). standing h.seat ∷ drop (suc place) xs) same

  pub one_turned : (begin now mid : WorldState C) (place : ℕ) (host : Host) (answer : Answer) → place < length now.seats → Turned begin place now → Found now.seats place (Some host) → CalmTurn calls host now answer mid
      → stops answer ≡ false → Turned begin (place + 1) mid
  one_turned begin now mid place host answer lt t found turn on =
      let h : Here now.seats place = here now.seats place lt in
      let once : IsOnce (hosts_of now.seats) = once_still begin.seats now.seats t.same t.once in
      record {
        same = turn_same host now answer mid on once turn ∙ t.same;
        once = t.once;
        left = λ r new rest. t.left r new (up_ends begin now place h.seat host r new (rest_of begin now place t.same h) (is_some h.seat.program) refl (found h.seat h.got)
            (turn_on host (ups_of (drop (place + 1) (standings begin.seats))) now mid answer r new on rest turn.0 turn.1 turn.2 (stops turn.0) refl turn.3));
      }

  pub none_here : (begin now : WorldState C) (place : ℕ) → place < length now.seats → Turned begin place now → Found now.seats place None → Turned begin (place + 1) now
  none_here begin now place lt t found =
      let h : Here now.seats place = here now.seats place lt in
      record {
        same = t.same;
        once = t.once;
        left = λ r new rest. t.left r new (down_ends begin now place h.seat r new (rest_of begin now place t.same h) (is_some h.seat.program) refl (found h.seat h.got) rest);
      }

  pub stop_turned : (begin now mid : WorldState C) (place : ℕ) (host : Host) (answer : Answer) → place < length now.seats → Turned begin place now → Found now.seats place (Some host) → CalmTurn calls host now answer mid
      → stops answer ≡ true → TurnsOf calls (up_in begin.seats) begin answer mid
  stop_turned begin now mid place host answer lt t found turn is =
      let h : Here now.seats place = here now.seats place lt in
      t.left answer mid (up_ends begin now place h.seat host answer mid (rest_of begin now place t.same h) (is_some h.seat.program) refl (found h.seat h.got)
      (turn_stops host (ups_of (drop (place + 1) (standings begin.seats))) now mid answer is turn.0 turn.1 turn.2 (stops turn.0) refl turn.3))

  pub all_turned : (begin now : WorldState C) (place : ℕ) → length begin.seats ≤ place → Turned begin place now → TurnsOf calls (up_in begin.seats) begin (Ok tt) now
  all_turned begin now place le t =
      let none : [] ≡ ups_of (drop place (standings begin.seats)) =
      ap ups_of (sym (drop_all place (standings begin.seats) (omega (arith, le, length-map begin.seats standing)))) in
      t.left (Ok tt) now (subst (λ (hosts : List Host). TurnsOf calls hosts now (Ok tt) now) none (refl, refl))

  -- as long as the hosts are as they were, there are as many seats
  pub as_many : (begin now : WorldState C) (place : ℕ) → Turned begin place now → length now.seats ≡ length begin.seats
  as_many begin now place t = sym (length-map now.seats standing) ∙ ap (λ (xs : List Standing). length xs) t.same ∙ length-map begin.seats standing

  pub stop_round : (old new : WorldState C) (answer : Answer) → TurnGives calls old Quiet answer new → stops answer ≡ true → Round calls old answer new
  stop_round old new answer step is = (answer, new, step, rw is (refl, refl))

  pub whole_round : (old quiet new : WorldState C) (answer r : Answer) → TurnGives calls old Quiet answer quiet → stops answer ≡ false → TurnsOf calls (up_in quiet.seats) quiet r new → Round calls old r new
  whole_round old quiet new answer r step on turns = (answer, quiet, step, rw on turns)

  -- ---- the rounds

  begun_by : (P : Type 0) (old : WorldState C) (r : Answer) (new : WorldState C) → P → (b : Bool) → b ≡ false → MatchBool b (Refuses (Carrier fault.Stopped) old r new) P
  begun_by P old r new h true is = absurd (cc)
  begun_by P old r new h false is = h

  pub begun : (times : ℕ) (old : WorldState C) (r : Answer) (new : WorldState C) → old.stopped ≡ false → Calms calls times old r new → CalmGives calls times old r new
  begun times old r new running h = begun_by (Calms calls times old r new) old r new h old.stopped running

  -- this many have passed, and what is left makes the whole
  abbrev pub Passed : ℕ → ℕ → WorldState C → WorldState C → Type 0
  Passed total count begin now = (r : Answer) (new : WorldState C) → Calms calls (total - count) now r new → Calms calls total begin r new

  round_left : (total count : ℕ) (begin now : WorldState C) → count < total → Passed total count begin now → (r : Answer) (new : WorldState C) → Calms calls (suc (total - (count + 1))) now r new
      → Calms calls total begin r new
  round_left total count begin now lt so r new h = let fewer : suc (total - (count + 1)) ≡ total - count = omega (arith, lt) in so r new (subst (λ (n : ℕ). Calms calls n now r new) fewer h)

  round_on : (left : ℕ) (now mid : WorldState C) (answer r : Answer) (new : WorldState C) → stops answer ≡ false → Calms calls left mid r new
      → (first : Answer) (quiet : WorldState C) → TurnGives calls now Quiet first quiet → (b : Bool) → stops first ≡ b → MatchBool b ((answer ≡ first) × (mid ≡ quiet)) (TurnsOf calls (up_in quiet.seats) quiet answer mid)
      → Calms calls (suc left) now r new
  round_on left now mid answer r new on rest first quiet step true e t = absurd (apart (stops answer) (ap stops t.0 ∙ e) on)
  round_on left now mid answer r new on rest first quiet step false e t = (first, quiet, step, rw e (answer, mid, t, rw on rest))

  round_stops : (left : ℕ) (now mid : WorldState C) (answer : Answer) → stops answer ≡ true
      → (first : Answer) (quiet : WorldState C) → TurnGives calls now Quiet first quiet → (b : Bool) → stops first ≡ b → MatchBool b ((answer ≡ first) × (mid ≡ quiet)) (TurnsOf calls (up_in quiet.seats) quiet answer mid)
      → Calms calls (suc left) now answer mid
  round_stops left now mid answer is first quiet step true e t = (first, quiet, step, rw e t)
  round_stops left now mid answer is first quiet step false e t = (first, quiet, step, rw e (answer, mid, t, rw is (refl, refl)))

  pub none_passed : (total : ℕ) (w : WorldState C) → Passed total 0 w w
  none_passed total w r new h = let same : total - 0 ≡ total = omega arith in subst (λ (n : ℕ). Calms calls n w r new) same h

  pub one_passed : (total count : ℕ) (begin now mid : WorldState C) (answer : Answer) → count < total → Passed total count begin now → Round calls now answer mid → stops answer ≡ false → Passed total (count + 1) begin mid
  one_passed total count begin now mid answer lt so round on r new h =
      round_left total count begin now lt so r new (round_on (total - (count + 1)) now mid answer r new on h round.0 round.1 round.2 (stops round.0) refl round.3)

  pub stop_passed : (total count : ℕ) (begin now mid : WorldState C) (answer : Answer) → count < total → Passed total count begin now → Round calls now answer mid → stops answer ≡ true → Calms calls total begin answer mid
  stop_passed total count begin now mid answer lt so round is =
      round_left total count begin now lt so answer mid (round_stops (total - (count + 1)) now mid answer is round.0 round.1 round.2 (stops round.0) refl round.3)

  pub all_passed : (total count : ℕ) (begin now : WorldState C) → total ≤ count → Passed total count begin now → Calms calls total begin (Ok tt) now
  all_passed total count begin now le so =
      let none : 0 ≡ total - count = omega (arith, le) in so (Ok tt) now (subst (λ (n : ℕ). Calms calls n now (Ok tt) now) none (refl, refl))
