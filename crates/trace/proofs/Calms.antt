-- A calm of plain mailboxes is its takings one after another.
use Rattle.trace.proofs.Common.{All-cons, All-nil, All-weaker, All, Host, is_host, Shown, Crossed, RawEvent, elements_of, events_of, from_boxes, no_course, round_of, rounds_from, taking}
use Rattle.std.proofs.Common.{◌≡◌, ◌&&◌, ◌||◌, ℕ, Bool, true, false, not, List, [], ◌∷◌, Option, Some, None, Result, Ok, Err, is_some, if◌then◌else◌, refl, sym, ap, ◌∙◌, subst}
use Rattle.std.proofs.lemmas.Bool.{false≢true, and_right}
use Rattle.leader1822.specs.Boxes.{Boxes, host_refusal, inbound_taken, is_running, next_for, take_grows, plain_calls}
use Rattle.interface.specs.Calls.{crossing_of, is_halt, is_memory}
use Rattle.interface.specs.declared.CarrierFault.{CarrierFault}
use Rattle.interface.specs.declared.CarrierFault.TheVariants as fault
use Rattle.interface.specs.declared.Inbound.{Inbound}
use Rattle.interface.specs.declared.Inbound.TheVariants as inbound
use Rattle.replay.specs.Replay.{GoesOn, Happens, IsOneCall, Quiet, Replays, calmly, outcome_of}
use Rattle.script.specs.declared.event.RawEvent.TheVariants as event
use Rattle.trace.proofs.Courses.{AllEvents, all_takings_events, rounds_events}
use Rattle.trace.proofs.Each.{Went, goes_after_take, went}
use Rattle.trace.proofs.Going.{AllRoundsGo, AllTakeSo, Goes, TakesSo, Traced, elementary_of, goes_all, goes_calmly, goes_chain, goes_none, or_first, run_one}

-- nothing has to hold of mailboxes for this
abbrev pub traced : Traced Boxes Boxes
traced = record { calls = plain_calls; view = λ b. b; Holds = λ b. Unit {0}; giving = from_boxes }

-- ---- one taking

-- a host may take exactly if nothing has stopped the mailboxes and it is up
free_is : (b : Boxes) (h : Host) → host_refusal b h ≡ None → (b.stopped ≡ false) × (is_running b.hosts b.down h ≡ true)
free_is b h none = by b.stopped (is_host b.hosts h) (is_host b.down h) none where
  by : (s there down : Bool) → (if s then Some fault.Stopped else (if not there then Some fault.NoSuch else (if down then Some fault.IsDown else None))) ≡ None → (s ≡ false) × ((there && not down) ≡ true)
  by true there down h = absurd (cc)
  by false false down h = absurd (cc)
  by false true true h = absurd (cc)
  by false true false h = (refl, refl)

-- and is refused otherwise, in a calm that continues since it is down or not there
pub refused_is : (b : Boxes) (h : Host) (f : CarrierFault) → host_refusal b h ≡ Some f → is_halt f ≡ false → is_running b.hosts b.down h ≡ false
refused_is b h f some apart = by b.stopped (is_host b.hosts h) (is_host b.down h) some where
  by : (s there down : Bool) → (if s then Some fault.Stopped else (if not there then Some fault.NoSuch else (if down then Some fault.IsDown else None))) ≡ Some f → (there && not down) ≡ false
  by true there down e = let is : fault.Stopped ≡ f = cc in absurd (false≢true (sym apart ∙ ap is_halt (sym is)))
  by false false down e = refl
  by false true true e = refl
  by false true false e = absurd (cc)

pub taken_log : (b : Boxes) (h : Host) (i : Inbound) → (inbound_taken b h (Some i)).log ≡ crossing_of i ∷ b.log
taken_log b h (inbound.Message m) = refl
taken_log b h (inbound.Answer kind f) = refl

goes_taking : (round : ℕ) (h : Host) (old new : Boxes) (i : Inbound) → host_refusal old h ≡ None → Some i ≡ next_for old h → new ≡ inbound_taken old h (next_for old h) → Goes traced old (taking from_boxes round h old) (Ok tt) new
goes_taking round h old new i free is left =
    let log : new.log ≡ crossing_of i ∷ old.log = ap (λ (b : Boxes). b.log) left ∙ ap (λ o. (inbound_taken old h o).log) (sym is) ∙ taken_log old h i in
    let once : Happens plain_calls old (event.Take h) new (Crossed (crossing_of i) ∷ []) = record {
      outcome = Ok tt;
      gives = (Ok (next_for old h), (free, (refl, left)), refl);
      goes_on = tt;
      crossings = crossing_of i ∷ [];
      grown = log;
      lines = refl;
    } in
    record { ok = refl; left = left; holds = tt; run = run_one plain_calls old new _ (crossing_of i ∷ []) once log }

takes_so : AllTakeSo traced
takes_so old h answer new holds t goes = by answer t goes where
  took : (a : Result (Option Inbound) CarrierFault) → plain_calls.takes old h a new → GoesOn (outcome_of a) → Went (host_refusal old h) (λ o. (o ≡ next_for old h) × (new ≡ inbound_taken old h o)) old a new
  took a t g = went (host_refusal old h) (take_grows old h) _ old a new t (goes_after_take a g)

  by : (a : Result (Option Inbound) CarrierFault) → plain_calls.takes old h a new → GoesOn (calmly (outcome_of a)) → TakesSo traced old h a new
  by (Ok (Some i)) t goes =
      let w = took (Ok (Some i)) t tt in
      (rw (free_is old h w.0).1 (ap is_some (sym w.1.0)), λ round. goes_taking round h old new i w.0 w.1.0 (w.1.1 ∙ ap (λ o. inbound_taken old h o) w.1.0))
  by (Ok None) t goes =
      let w = took (Ok None) t tt in
      (and_right (is_running old.hosts old.down h) (is_some (next_for old h)) (ap is_some (sym w.1.0)), w.1.1)
  by (Err f) t goes =
      let calm : (is_halt f || is_memory f) ≡ false = goes_calmly f goes in
      let w = took (Err f) t calm in
      (rw (refused_is old h f w.0 (or_first (is_halt f) (is_memory f) calm)) refl, w.1)

-- ---- rounds

goes_quiet : (old : Boxes) (q : Result (Unit {0}) CarrierFault) (mid : Boxes) → Quiet plain_calls old q mid → GoesOn q → Goes traced old (no_course old) q mid
goes_quiet old q mid (Ok done, rounds, is) goes = goes_none traced old q mid tt is rounds.1
goes_quiet old q mid (Err f, rounds, is) goes =
    let calm : (is_halt f || is_memory f) ≡ false = goes_calmly f (subst GoesOn is goes) in
    absurd (false≢true (sym (or_first _ _ calm) ∙ ap is_halt rounds.1))

pub goes_round : AllRoundsGo traced round_of
goes_round round old r new holds (q, mid, first, more) goes =
    goes_chain traced (Quiet plain_calls) _ _ _ old new r
    (λ q mid k g. goes_quiet old q mid k g) (λ q mid m k g. goes_all traced takes_so round old.hosts mid r new tt k g) q mid first more goes

pub elementary : (old new : Boxes) (e : RawEvent) (shown : List Shown) → Happens plain_calls old e new shown → Replays plain_calls old (events_of (elements_of old e)) new shown
elementary old new e shown k = elementary_of traced round_of goes_round old new e shown tt k

-- ---- all of a calm's elementary events are takings

abbrev pub IsTaking : RawEvent → Type 0
IsTaking (event.Take h) = Unit {0}
IsTaking c = ⊥

pub rounds_are : (round times : ℕ) (b : Boxes) → AllEvents IsTaking (rounds_from round_of round times b)
rounds_are round times b = rounds_events IsTaking round_of (λ round b. all_takings_events IsTaking from_boxes (λ h. tt) round b.hosts b) round times b

pub one_call : (e : RawEvent) → IsTaking e → IsOneCall e
one_call (event.Calm rounds) h = absurd h
one_call e h = tt

pub all_one_call : (b : Boxes) (e : RawEvent) → All IsOneCall (events_of (elements_of b e))
all_one_call b (event.Calm rounds) = All-weaker IsTaking IsOneCall one_call (events_of (rounds_from round_of 1 rounds b).elements) (rounds_are 1 rounds b)
all_one_call b e = All-cons IsOneCall e [] tt (All-nil IsOneCall)
