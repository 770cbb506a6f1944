-- A world that rests: the carrier does beside the strangers, which have no seats, and no message of a host goes out.
use Rattle.net_sim.proofs.Common.{◌≡◌, ℕ, ◌+◌, ◌-◌, ◌<◌, zero, suc, Bool, false, ◌==◌, inr, List, [], ◌∷◌, length, find, cond, if◌then◌else◌, Option, Some, None, IfSome, Ok, Err, refl, ap, sym, subst, ◌∙◌, arith, eqb-true, MatchBool, Host, is_host, same_host, Calls, Seen, ShowsOffer, ShowsTake, halted, is_memory, is_halt, RefusesOffer, RestsBeside, CarrierFault, Inbound, HostMessage, NcpState, next_out, shown, WorldState, WorldFault, Carrier, Quiet, Offer, Seat, seat_of, Refuses, OfferGives, TakeGives, AtSeat, EventGives, stops, Repeats, TurnsOf, up_in, Calms}
use Rattle.std.proofs.lemmas.Bool.{or_from}
use Rattle.std.proofs.Common.{true, slice_get, Result}
use Rattle.std.proofs.lemmas.Bool.Decides.{nat_tests}
use Rattle.interface.specs.Rest.{BringsNothing, TakesNothing}
use Rattle.interface.specs.declared.carrier.CarrierFault.TheVariants as fault
use Rattle.net_sim.specs.Inside.Calm.{AllOfferNothing, OffersNothing}
use Rattle.net_sim.specs.Clean.{IsLawfulAmong}
use Rattle.net_sim.specs.Steps.{strange_in}
use Rattle.net_sim.specs.Rest.{IsAtRest, Leaves}
use Rattle.net_sim.specs.World.{Take}
use Rattle.net_sim.proofs.Hosts.Calming.{Passed, none_repeated}
use Rattle.net_sim.proofs.Hosts.Seats.{found_plain}

-- ---- what a carrier shows that rests

take_shown : (s : Seen) (h : Host) (answer : Result (Option Inbound) CarrierFault) → s.stopped ≡ false → BringsNothing answer → ShowsTake s h answer s
take_shown s h (Ok None) running nothing = record { running = running; shown = refl }
take_shown s h (Ok (Some i)) running nothing = absurd nothing
take_shown s h (Err f) running nothing = record { when_stopped = running ∙ sym nothing.0; shown = sym (ap (λ (b : Bool). if b then halted s else s) nothing.1) }

offer_shown : (s : Seen) (m : HostMessage) (f : CarrierFault) → s.stopped ≡ false → (is_halt f ≡ false) × (is_memory f ≡ false) → ShowsOffer s m (Err f) s
offer_shown s m f running lasts = record { when_stopped = running ∙ sym lasts.0; shown = sym (ap (λ (b : Bool). if b then halted s else s) lasts.1) }

rest_shown : {C : Type 0} (calls : Calls C) (c : C) (hosts : List Host) → (calls.seen c).stopped ≡ false → RestsBeside calls.rounds calls.takes hosts c
    → RestsBeside (shown calls).rounds (shown calls).takes hosts c
rest_shown calls c hosts running rest = record {
  round = (rest.round, record { running = running; shown = refl });
  takings = λ h other. (let t = rest.takings h other in record { answer = t.answer; nothing = t.nothing; unchanged = (t.unchanged, take_shown (calls.seen c) h t.answer running t.nothing) });
}

some_shown : {C : Type 0} (calls : Calls C) (c : C) (o : Option HostMessage) → (calls.seen c).stopped ≡ false → IfSome o (λ m. RefusesOffer calls.offers c m) → IfSome o (λ m. RefusesOffer (shown calls).offers c m)
some_shown calls c None running refuses = tt
some_shown calls c (Some m) running refuses = record { fault = refuses.fault; lasts = refuses.lasts; unchanged = (refuses.unchanged, offer_shown (calls.seen c) m refuses.fault running refuses.lasts) }

nothing_shown : {C : Type 0} (calls : Calls C) (c : C) (seats : List Seat) → (calls.seen c).stopped ≡ false → AllOfferNothing calls c seats → AllOfferNothing (shown calls) c seats
nothing_shown calls c seats running all = λ at below seat found s is. some_shown calls c (next_out s) running (all at below seat found s is)

-- ---- a property of all hosts

-- the host at one place more
one_by : (P : ℕ → Type 0) (b : Bool) (k i : ℕ) → (i == k) ≡ b → ((j : ℕ) → j < k → P j) → P k → i < k + 1 → P i
one_by P true k i is earlier here below = let same : i ≡ k = eqb-true i k is in subst P (sym same) here
one_by P false k i is earlier here below = earlier i (grind (arith, nat_tests, is, below))

pub one_more : (P : ℕ → Type 0) (k : ℕ) (b : Bool) → b ≡ true → ((j : ℕ) → j < k → P j) → (b ≡ true → P k) → (i : ℕ) → i < k + 1 → P i
one_more P k b said earlier here = λ i below. one_by P (i == k) k i refl earlier (here said) below

found_by : (P : Seat → Type 0) (h : Host) (x seat : Seat) (seats : List Seat) (b : Bool) → cond b (Some x) (find (λ y. same_host h y.host) seats) ≡ Some seat → P x
    → (find (λ y. same_host h y.host) seats ≡ Some seat → P seat) → P seat
found_by P h x seat seats true found first others = let mine : x ≡ seat = cc in subst P mine first
found_by P h x seat seats false found first others = others found

found_of : (P : Seat → Type 0) (h : Host) (seat : Seat) (seats : List Seat) → ((at : ℕ) → at < length seats → (x : Seat) → slice_get seats at ≡ Some x → P x) → seat_of h seats ≡ Some seat → P seat
found_of P h seat [] all found = absurd (cc)
found_of P h seat (x ∷ seats) all found =
    found_by P h x seat seats (same_host h x.host) found (all 0 (omega arith) x refl)
    (λ f. found_of P h seat seats (λ at lt y got. all (suc at) (omega (arith, lt)) y got) f)

-- no stranger has a seat
abbrev pub AreSeatless : {C : Type 0} → WorldState C → Type 0
AreSeatless w = (h : Host) (seat : Seat) → seat_of h w.seats ≡ Some seat → is_host w.strangers h ≡ false

lawful_seatless : {C : Type 0} (seen : C → Seen) (hosts : List Host) (w : WorldState C) → w.stopped ≡ false → IsLawfulAmong (strange_in w) seen hosts w → AreSeatless w
lawful_seatless seen hosts w running lawful h seat found =
    found_plain (strange_in w) hosts hosts lawful.whole.moments h seat (ap (seat_of h) (sym (lawful.whole.seats running)) ∙ found)

module _ {C : Type 0} (calls : Calls C) where
  running_by : (P : Type 0) (w : WorldState C) (r : Result (Unit {0}) WorldFault) → P → (b : Bool) → b ≡ false → MatchBool b (Refuses (Carrier fault.Stopped) w r w) P
  running_by P w r h true is = absurd (cc)
  running_by P w r h false is = h

  pub round_leaves : (w : WorldState C) → w.stopped ≡ false → calls.rounds w.carrier (Ok tt) w.carrier → Leaves calls w Quiet
  round_leaves w running round = record { answer = Ok tt; step = running_by (EventGives calls w Quiet (Ok tt) w) w (Ok tt) (Ok tt, w.carrier, round, (refl, refl)) w.stopped running; continues = refl }

  -- an event at a host that is away is refused
  record Gives (Happens : NcpState → Result (Unit {0}) WorldFault → Type 0) (o : Option Seat) (w : WorldState C) : Type 0 where
    pub answer : Result (Unit {0}) WorldFault
    pub gives : AtSeat (λ s. Happens s answer) o w answer w
    pub on : stops answer ≡ false

  record Goes (Happens : NcpState → Result (Unit {0}) WorldFault → Type 0) (s : NcpState) : Type 0 where
    pub answer : Result (Unit {0}) WorldFault
    pub happens : Happens s answer
    pub on : stops answer ≡ false

  program_gives : (Happens : NcpState → Result (Unit {0}) WorldFault → Type 0) (h : Host) (o : Option NcpState) (w : WorldState C) → ((s : NcpState) → o ≡ Some s → Goes Happens s)
      → Gives Happens (Some (record { host = h; program = o })) w
  program_gives Happens h None w goes = record { answer = Err (Carrier fault.IsDown); gives = (refl, refl); on = refl }
  program_gives Happens h (Some s) w goes = let g = goes s refl in record { answer = g.answer; gives = g.happens; on = g.on }

  seat_gives : (Happens : NcpState → Result (Unit {0}) WorldFault → Type 0) (o : Option Seat) (w : WorldState C) → ((seat : Seat) (s : NcpState) → o ≡ Some seat → seat.program ≡ Some s → Goes Happens s) → Gives Happens o w
  seat_gives Happens None w goes = record { answer = Err (Carrier fault.NoSuch); gives = (refl, refl); on = refl }
  seat_gives Happens (Some seat) w goes = program_gives Happens seat.host seat.program w (λ s is. goes seat s refl is)

  take_goes : (h : Host) (w : WorldState C) (s : NcpState) → w.stopped ≡ false → TakesNothing calls.takes w.carrier h → Goes (λ x r. TakeGives calls h x w r w) s
  take_goes h w s running t = by t.answer t.nothing t.unchanged where
    by : (answer : Result (Option Inbound) CarrierFault) → BringsNothing answer → calls.takes w.carrier h answer w.carrier → Goes (λ x r. TakeGives calls h x w r w) s
    by (Ok None) nothing same = record { answer = Ok tt; happens = (Ok None, w.carrier, same, (refl, refl)); on = refl }
    by (Ok (Some i)) nothing same = absurd nothing
    by (Err f) nothing same =
        let at : Bool → WorldState C = λ b. record w { stopped = b } in
        record {
          answer = Err (Carrier f);
          happens = (Err f, w.carrier, same, (refl, ap at (running ∙ sym nothing.1)));
          on = or_from (is_memory f) (is_halt f) nothing.1 nothing.0;
        }

  pub take_leaves : (h : Host) (w : WorldState C) → w.stopped ≡ false → ((seat : Seat) → seat_of h w.seats ≡ Some seat → TakesNothing calls.takes w.carrier h) → Leaves calls w (Take h)
  take_leaves h w running t =
      let g = seat_gives (λ x r. TakeGives calls h x w r w) (seat_of h w.seats) w (λ seat s found is. take_goes h w s running (t seat found)) in
      record { answer = g.answer; step = running_by (EventGives calls w (Take h) g.answer w) w g.answer g.gives w.stopped running; continues = g.on }

  -- a message that is refused, or none
  offer_goes : (h : Host) (w : WorldState C) (s : NcpState) (o : Option HostMessage) → w.stopped ≡ false → IfSome o (λ m. RefusesOffer calls.offers w.carrier m) → Goes (λ x r. OfferGives calls h x o w r w) s
  offer_goes h w s None running refuses = record { answer = Ok tt; happens = (refl, refl); on = refl }
  offer_goes h w s (Some m) running refuses =
      let f : CarrierFault = refuses.fault in
      let at : Bool → WorldState C = λ b. record w { stopped = b } in
      record {
        answer = Err (Carrier f);
        happens = inr (Err f, w.carrier, refuses.unchanged, (refl, ap at (running ∙ sym refuses.lasts.1)));
        on = or_from (is_memory f) (is_halt f) refuses.lasts.1 refuses.lasts.0;
      }

  next_goes : (h : Host) (w : WorldState C) (s : NcpState) → Goes (λ x r. OfferGives calls h x (next_out s) w r w) s → Goes (λ x r. OfferGives calls h x (next_out x) w r w) s
  next_goes h w s g = record { answer = g.answer; happens = g.happens; on = g.on }

  pub offer_leaves : (h : Host) (w : WorldState C) → w.stopped ≡ false → AllOfferNothing calls w.carrier w.seats → Leaves calls w (Offer h)
  offer_leaves h w running all =
      let g = seat_gives (λ x r. OfferGives calls h x (next_out x) w r w) (seat_of h w.seats) w
      (λ seat s found is. next_goes h w s (offer_goes h w s (next_out s) running (found_of (OffersNothing calls w.carrier) h seat w.seats all found s is))) in
      record { answer = g.answer; step = running_by (EventGives calls w (Offer h) g.answer w) w g.answer g.gives w.stopped running; continues = g.on }

  pub rests_by : (w : WorldState C) → w.stopped ≡ false → RestsBeside calls.rounds calls.takes w.strangers w.carrier → AreSeatless w → AllOfferNothing calls w.carrier w.seats → IsAtRest calls w
  rests_by w running rest seatless all = record {
    running = running;
    round = round_leaves w running rest.round;
    takings = λ h. take_leaves h w running (λ seat found. rest.takings h (seatless h seat found));
    offers = λ h. offer_leaves h w running all;
  }

  -- ---- a calm that changes nothing

  turns_still : (hosts : List Host) (w : WorldState C) → IsAtRest calls w → TurnsOf calls hosts w (Ok tt) w
  turns_still [] w rest = (refl, refl)
  turns_still (h ∷ hosts) w rest =
      let t : Leaves calls w (Take h) = rest.takings h in
      let o : Leaves calls w (Offer h) = rest.offers h in
      let took : Repeats calls (Take h) 16 w (Ok tt) w = none_repeated calls (Take h) 16 0 w w w t.answer (omega arith) (λ r new k. k) t.step t.continues (omega arith) in
      let sent : Repeats calls (Offer h) 32 w (Ok tt) w = none_repeated calls (Offer h) 32 0 w w w o.answer (omega arith) (λ r new k. k) o.step o.continues (omega arith) in
      (Ok tt, w, took, (Ok tt, w, sent, turns_still hosts w rest))

  calms_still : (times : ℕ) (w : WorldState C) → IsAtRest calls w → Calms calls times w (Ok tt) w
  calms_still zero w rest = (refl, refl)
  calms_still (suc times) w rest =
      let q : Leaves calls w Quiet = rest.round in
      let turns : TurnsOf calls (up_in w.seats) w (Ok tt) w = turns_still (up_in w.seats) w rest in
      (q.answer, w, q.step, rw (q.continues) (Ok tt, w, turns, calms_still times w rest))

  pub rest_passed : (total count : ℕ) (begin now : WorldState C) → Passed calls total count begin now → IsAtRest calls now → Calms calls total begin (Ok tt) now
  rest_passed total count begin now so rest = so (Ok tt) now (calms_still (total - count) now rest)

-- a lawful world whose carrier rests beside the strangers, and of which no message goes out
pub at_rest : {C : Type 0} (own : Calls C) (hosts : List Host) (w : WorldState C) → w.stopped ≡ false → (own.seen w.carrier).stopped ≡ false → RestsBeside own.rounds own.takes w.strangers w.carrier
    → IsLawfulAmong (strange_in w) own.seen hosts w → AllOfferNothing own w.carrier w.seats → IsAtRest (shown own) w
at_rest own hosts w running works rest lawful all =
    rests_by (shown own) w running (rest_shown own w.carrier w.strangers works rest) (lawful_seatless own.seen hosts w running lawful) (nothing_shown own w.carrier w.seats works all)
