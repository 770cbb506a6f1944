-- A part of a calm that continues is the events of its course, one after another: over any carrier.
pub use Rattle.interface.proofs.lemmas.{or_first}
use Rattle.trace.proofs.Common.{◌≡◌, ◌||◌, ℕ, zero, suc, Bool, true, false, List, [], ◌∷◌, ◌++◌, Option, Some, None, Result, Ok, Err, if◌then◌else◌, reverse, refl, sym, ap, ◌∙◌, subst, Calls, is_halt, is_memory, Host, Crossing, Shown, Crossed, shown_crossings, shown_refusal, RawEvent, Course, Giving, all_takings, elements_in, events_of, no_course, rounds_from, taking, takings, then_course}
use Rattle.std.proofs.lemmas.List.{append_assoc, append-nil, append_cancel_right, map-append, reverse-append, reverse-reverse}
use Rattle.interface.specs.declared.CarrierFault.{CarrierFault}
use Rattle.interface.specs.declared.Inbound.{Inbound}
use Rattle.replay.specs.Replay.{AllTake, GoesOn, Happens, IfGiven, Onward, Part, Replays, Round, Rounds, Takings, calmly, outcome_of}
use Rattle.script.specs.declared.event.RawEvent.TheVariants as event
use Rattle.trace.proofs.Courses.{none_given, one_given}

-- a carrier, what its courses say of it, what holds of it all the while, and what its hosts are given
pub record Traced (C S : Type 0) : Type 1 where
  pub calls : Calls C
  pub view : C → S
  pub Holds : C → Type 0
  pub giving : Giving S

-- ---- events that continue, and what crossed

-- these events happen one after the other, and all that they show is what crossed
pub record Run {C : Type 0} (calls : Calls C) (old : C) (events : List RawEvent) (new : C) : Type 0 where
  pub crossings : List Crossing
  pub replays : Replays calls old events new (shown_crossings crossings)
  pub grown : (calls.seen new).log ≡ reverse crossings ++ (calls.seen old).log

pub run_none : {C : Type 0} (calls : Calls C) (old : C) → Run calls old [] old
run_none calls old = record { crossings = []; replays = (refl, refl); grown = refl }

shown_more : (xs ys : List Crossing) → shown_crossings (xs ++ ys) ≡ shown_crossings xs ++ shown_crossings ys
shown_more [] ys = refl
shown_more (x ∷ xs) ys = ap (λ zs. Crossed x ∷ zs) (shown_more xs ys)

replays_more : {C : Type 0} (calls : Calls C) (old mid new : C) (xs ys : List RawEvent) (shown more : List Shown) → Replays calls old xs mid shown → Replays calls mid ys new more → Replays calls old (xs ++ ys) new (shown ++ more)
replays_more {C} calls old mid new [] ys shown more h k =
    subst (λ (s : List Shown). Replays calls old ys new (s ++ more)) (sym h.1) (subst (λ (b : C). Replays calls b ys new more) h.0 k)
replays_more calls old mid new (x ∷ xs) ys shown more (next, first, rest, h, hs, whole) k =
    (next, first, rest ++ more, h, replays_more calls next mid new xs ys rest more hs k, ap (λ s. s ++ more) whole ∙ append_assoc first rest more)

pub run_then : {C : Type 0} (calls : Calls C) (old mid new : C) (xs ys : List RawEvent) → Run calls old xs mid → Run calls mid ys new → Run calls old (xs ++ ys) new
run_then calls old mid new xs ys h k = record {
  crossings = h.crossings ++ k.crossings;
  replays = subst (λ (s : List Shown). Replays calls old (xs ++ ys) new s) (sym (shown_more _ _)) (replays_more calls old mid new xs ys _ _ h.replays k.replays);
  grown = k.grown ∙ ap (λ log. reverse k.crossings ++ log) h.grown ∙ sym (append_assoc (reverse k.crossings) (reverse h.crossings) (calls.seen old).log) ∙ ap (λ cs. cs ++ (calls.seen old).log) (sym (reverse-append h.crossings k.crossings));
}

-- one event, by itself
pub run_one : {C : Type 0} (calls : Calls C) (old new : C) (e : RawEvent) (crossings : List Crossing) → Happens calls old e new (shown_crossings crossings) → (calls.seen new).log ≡ reverse crossings ++ (calls.seen old).log → Run calls old (e ∷ []) new
run_one calls old new e crossings h grown = record {
  crossings = crossings;
  replays = (new, shown_crossings crossings, [], h, (refl, refl), sym (append-nil (shown_crossings crossings)));
  grown = grown;
}

-- crossings by which a log grew, where it is known how it grew
pub crossings_are : (cs ds log new : List Crossing) → new ≡ reverse cs ++ log → new ≡ reverse ds ++ log → cs ≡ ds
crossings_are cs ds log new h k =
    let back : reverse cs ≡ reverse ds = append_cancel_right (reverse cs) (reverse ds) log (sym h ∙ k) in
    sym (reverse-reverse cs) ∙ ap reverse back ∙ reverse-reverse ds

-- ---- parts of a calm

-- a part of a calm continued: it succeeded, left what the course leaves, and is the events of the course
pub record Goes {C S : Type 0} (x : Traced C S) (old : C) (c : Course S) (r : Result (Unit {0}) CarrierFault) (new : C) : Type 0 where
  pub ok : r ≡ Ok tt
  pub left : x.view new ≡ c.left
  pub holds : x.Holds new
  pub run : Run x.calls old (events_of c.elements) new

pub goes_none : {C S : Type 0} (x : Traced C S) (old : C) (r : Result (Unit {0}) CarrierFault) (new : C) → x.Holds old → r ≡ Ok tt → new ≡ old → Goes x old (no_course (x.view old)) r new
goes_none {C} x old r new holds ok same = record { ok = ok; left = ap x.view same; holds = subst x.Holds (sym same) holds; run = subst (λ (b : C). Run x.calls old [] b) (sym same) (run_none _ old) }

pub goes_then : {C S : Type 0} (x : Traced C S) (old mid new : C) (first : Course S) (next : S → Course S) (q r : Result (Unit {0}) CarrierFault) → Goes x old first q mid → Goes x mid (next (x.view mid)) r new → Goes x old (then_course first next) r new
goes_then x old mid new first next q r h k = record {
  ok = k.ok;
  left = k.left ∙ ap (λ b. (next b).left) h.left;
  holds = k.holds;
  run = subst (λ (es : List RawEvent). Run x.calls old es new)
      (ap (λ b. events_of first.elements ++ events_of (next b).elements) h.left ∙ sym (map-append (λ y. y.event) first.elements (next first.left).elements))
      (run_then _ old mid new _ _ h.run k.run);
}

-- one part, and then the next
pub goes_chain : {C S : Type 0} (x : Traced C S) (First Next : Part C) (first : Course S) (next : S → Course S) (old new : C) (r : Result (Unit {0}) CarrierFault)
    → ((q : Result (Unit {0}) CarrierFault) (mid : C) → First old q mid → GoesOn q → Goes x old first q mid)
    → ((q : Result (Unit {0}) CarrierFault) (mid : C) → Goes x old first q mid → Next mid r new → GoesOn r → Goes x mid (next (x.view mid)) r new)
    → (q : Result (Unit {0}) CarrierFault) (mid : C) → First old q mid → Onward Next q mid r new → GoesOn r → Goes x old (then_course first next) r new
goes_chain x First Next first next old new r one more (Ok done) mid h k goes =
    let g : Goes x old first (Ok done) mid = one (Ok done) mid h tt in
    goes_then x old mid new first next _ r g (more (Ok done) mid g k goes)
goes_chain x First Next first next old new r one more (Err f) mid h k goes =
    let bad : Err f ≡ Ok tt = (one (Err f) mid h (subst GoesOn k.0 goes)).ok in absurd (cc)

-- a fault that doesn't end a calm
pub goes_calmly : (f : CarrierFault) → GoesOn (calmly (Err f)) → (is_halt f || is_memory f) ≡ false
goes_calmly f goes = by (is_halt f || is_memory f) refl goes where
  by : (b : Bool) → (is_halt f || is_memory f) ≡ b → GoesOn (if b then Err f else Ok tt) → (is_halt f || is_memory f) ≡ false
  by true e g = g
  by false e g = e

calm_is : (f : CarrierFault) → (is_halt f || is_memory f) ≡ false → calmly (Err f) ≡ Ok tt
calm_is f e = rw e refl

-- ---- takings

-- a taking that continues gives something and is an event of its own, or gives nothing and changes nothing
abbrev pub TakesSo : {C S : Type 0} → Traced C S → C → Host → Result (Option Inbound) CarrierFault → C → Type 0
TakesSo x old h answer new =
    IfGiven answer ((x.giving.is_given (x.view old) h ≡ true) × ((round : ℕ) → Goes x old (taking x.giving round h (x.view old)) (Ok tt) new))
    ((x.giving.is_given (x.view old) h ≡ false) × (new ≡ old))

abbrev pub AllTakeSo : {C S : Type 0} → Traced C S → Type 0
AllTakeSo {C} {S} x = (old : C) (h : Host) (answer : Result (Option Inbound) CarrierFault) (new : C) → x.Holds old → x.calls.takes old h answer new → GoesOn (calmly (outcome_of answer)) → TakesSo x old h answer new

goes_takings : {C S : Type 0} (x : Traced C S) → AllTakeSo x → (round : ℕ) (h : Host) (times : ℕ) (old : C) (r : Result (Unit {0}) CarrierFault) (new : C) → x.Holds old → Takings x.calls h times old r new → GoesOn r → Goes x old (takings x.giving round h times (x.view old)) r new
goes_takings x takes round h zero old r new holds k goes = goes_none x old r new holds k.0 k.1
goes_takings {C} {S} x takes round h (suc times) old r new holds (answer, mid, took, after) goes = by (λ m k. goes_takings x takes round h times mid r new m k goes) answer took after
  where
    -- where nothing was given
    ends : (q : Result (Unit {0}) CarrierFault) → q ≡ Ok tt → (x.giving.is_given (x.view old) h ≡ false) × (mid ≡ old) → (r ≡ q) × (new ≡ mid) → Goes x old (takings x.giving round h (suc times) (x.view old)) r new
    ends q calm none k =
        subst (λ (c : Course S). Goes x old c r new) (sym (none_given x.giving round h times _ none.0)) (goes_none x old r new holds (k.0 ∙ calm) (k.1 ∙ none.1))

    by : (x.Holds mid → Takings x.calls h times mid r new → Goes x mid (takings x.giving round h times (x.view mid)) r new) → (a : Result (Option Inbound) CarrierFault) → x.calls.takes old h a mid → IfGiven a (Takings x.calls h times mid r new) ((r ≡ calmly (outcome_of a)) × (new ≡ mid)) → Goes x old (takings x.giving round h (suc times) (x.view old)) r new
    by more (Ok (Some i)) t k =
        let one = takes old h (Ok (Some i)) mid holds t tt in
        let first : Goes x old (taking x.giving round h (x.view old)) (Ok tt) mid = one.1 round in
        subst (λ (c : Course S). Goes x old c r new) (sym (one_given x.giving round h times _ one.0))
        (goes_then x old mid new _ (takings x.giving round h times) _ r first (more first.holds k))
    by more (Ok None) t k = ends (Ok tt) refl (takes old h (Ok None) mid holds t tt) k
    by more (Err f) t k = ends (calmly (Err f)) (calm_is f (goes_calmly f (subst GoesOn k.0 goes))) (takes old h (Err f) mid holds t (subst GoesOn k.0 goes)) k

pub goes_all : {C S : Type 0} (x : Traced C S) → AllTakeSo x → (round : ℕ) (hosts : List Host) (old : C) (r : Result (Unit {0}) CarrierFault) (new : C) → x.Holds old → AllTake x.calls hosts old r new → GoesOn r → Goes x old (all_takings x.giving round hosts (x.view old)) r new
goes_all x takes round [] old r new holds k goes = goes_none x old r new holds k.0 k.1
goes_all x takes round (h ∷ hosts) old r new holds (q, mid, first, more) goes =
    goes_chain x (Takings x.calls h 16) _ _ (all_takings x.giving round hosts) old new r
    (λ q mid k g. goes_takings x takes round h 16 old q mid holds k g) (λ q mid m k g. goes_all x takes round hosts mid r new m.holds k g) q mid first more goes

-- ---- rounds and events

abbrev pub AllRoundsGo : {C S : Type 0} → Traced C S → (ℕ → S → Course S) → Type 0
AllRoundsGo {C} {S} x whole = (round : ℕ) (old : C) (r : Result (Unit {0}) CarrierFault) (new : C) → x.Holds old → Round x.calls old r new → GoesOn r → Goes x old (whole round (x.view old)) r new

goes_rounds : {C S : Type 0} (x : Traced C S) (whole : ℕ → S → Course S) → AllRoundsGo x whole → (round times : ℕ) (old : C) (r : Result (Unit {0}) CarrierFault) (new : C) → x.Holds old → Rounds x.calls times old r new → GoesOn r → Goes x old (rounds_from whole round times (x.view old)) r new
goes_rounds x whole each round zero old r new holds k goes = goes_none x old r new holds k.0 k.1
goes_rounds x whole each round (suc times) old r new holds (q, mid, first, more) goes =
    goes_chain x (Round x.calls) _ _ (rounds_from whole (suc round) times) old new r
    (λ q mid k g. each round old q mid holds k g) (λ q mid m k g. goes_rounds x whole each (suc round) times mid r new m.holds k g) q mid first more goes

itself : {C : Type 0} (calls : Calls C) (old new : C) (e : RawEvent) (shown : List Shown) → Happens calls old e new shown → Replays calls old (e ∷ []) new shown
itself calls old new e shown k = (new, shown, [], k, (refl, refl), sym (append-nil shown))

-- an event is its elementary events one after another
pub elementary_of : {C S : Type 0} (x : Traced C S) (whole : ℕ → S → Course S) → AllRoundsGo x whole → (old new : C) (e : RawEvent) (shown : List Shown) → x.Holds old → Happens x.calls old e new shown
    → Replays x.calls old (events_of (elements_in (λ rounds. (rounds_from whole 1 rounds (x.view old)).elements) e)) new shown
elementary_of x whole each old new (event.Calm rounds) shown holds k =
    let goes : Goes x old (rounds_from whole 1 rounds (x.view old)) k.outcome new = goes_rounds x whole each 1 rounds old _ new holds k.gives k.goes_on in
    let crossings : goes.run.crossings ≡ k.crossings = crossings_are _ _ _ _ goes.run.grown k.grown in
    let lines : shown_crossings goes.run.crossings ≡ shown =
    ap shown_crossings crossings ∙ sym (append-nil (shown_crossings k.crossings)) ∙ ap (λ r. shown_crossings k.crossings ++ shown_refusal r) (sym goes.ok) ∙ sym k.lines in
    subst (λ (s : List Shown). Replays x.calls old (events_of (rounds_from whole 1 rounds (x.view old)).elements) new s) lines goes.run.replays
elementary_of x whole each old new c shown holds k = itself _ old new c shown k

-- what holds all the while holds after a calm
pub calm_holds : {C S : Type 0} (x : Traced C S) (whole : ℕ → S → Course S) → AllRoundsGo x whole → (old new : C) (rounds : ℕ) (shown : List Shown) → x.Holds old → Happens x.calls old (event.Calm rounds) new shown → x.Holds new
calm_holds x whole each old new rounds shown holds k = (goes_rounds x whole each 1 rounds old _ new holds k.gives k.goes_on).holds
