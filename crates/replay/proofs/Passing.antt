-- A calm continues, and ends.
use Rattle.replay.proofs.Common.{Appends, Appends-trans, Host, Crossing, output, shown_crossings, shown_refusal, EventEnds, Grew, PrintEnds, ReplayFault, Detail}
use Rattle.std.proofs.Common.{◌≡◌, ℕ, zero, suc, Bool, true, false, ◌||◌, if◌then◌else◌, ◌+◌, ◌-◌, ◌<◌, ◌≤◌, List, [], ◌∷◌, ◌++◌, Option, Some, None, Result, Ok, Err, IfErr, drop, length, get_or, reverse, refl, sym, ap, subst, ◌∙◌, arith, inr}
use Rattle.std.proofs.lemmas.Bool.{false≢true}
use Rattle.std.proofs.lemmas.List.{append_assoc, append-nil, drop_all, drop_more, reverse-append}
use Rattle.interface.specs.Calls.{Calls, Seen, is_halt, is_memory}
use Rattle.interface.specs.Rest.{BringsNothing, RestsBeside, TakesNothing}
use Rattle.interface.specs.declared.CarrierFault.{CarrierFault}
use Rattle.interface.specs.declared.Inbound.{Inbound}
use Rattle.replay.specs.Replay.{AllTake, GoesOn, Halts, Onward, Round, Rounds, Takings, calmly}
use Rattle.replay.specs.declared.events.ReplayFault.TheVariants as fault
use Rattle.script.specs.declared.event.RawEvent.TheVariants as event
use Rattle.replay.proofs.Shown.{gained, output-append, shown_crossings-append}

pub grew_more : (old mid new : Seen) → Grew old mid → Grew mid new → Grew old new
grew_more old mid new h k = record {
  crossings = k.crossings ++ h.crossings;
  grown = k.grown ∙ ap (λ log. k.crossings ++ log) h.grown ∙ sym (append_assoc k.crossings h.crossings old.log);
  hosts = k.hosts ∙ h.hosts;
}

-- ---- a host's takings

-- this many takings of a host gave something: whatever it takes in those that are left continues from there
pub record Took {C : Type 0} (calls : Calls C) (h : Host) (first : C) (i : ℕ) (now : C) : Type 0 where
  pub few : i ≤ 16
  pub goes : (left : ℕ) → i + left ≡ 16 → (r : Result (Unit {0}) CarrierFault) (new : C) → Takings calls h left now r new → Takings calls h 16 first r new
  pub grew : Grew (calls.seen first) (calls.seen now)

pub one_took : {C : Type 0} (calls : Calls C) (h : Host) (first now next : C) (i : ℕ) (given : Inbound) (what : Option Inbound) → i < 16 → Took calls h first i now → what ≡ Some given → calls.takes now h (Ok what) next → Grew (calls.seen now) (calls.seen next)
    → Took calls h first (i + 1) next
one_took calls h first now next i given what lt before is taken grew = record {
  few = omega (arith, lt);
  goes = λ left all r new k. before.goes (suc left) (omega (arith, all)) r new (Ok (Some given), next, subst (λ o. calls.takes now h (Ok o) next) is taken, k);
  grew = grew_more (calls.seen first) (calls.seen now) (calls.seen next) before.grew grew;
}

pub all_took : {C : Type 0} (calls : Calls C) (h : Host) (first now : C) (i : ℕ) → 16 ≤ i → Took calls h first i now → Takings calls h 16 first (Ok tt) now
all_took calls h first now i le before = let few = before.few in before.goes 0 (omega (arith, le, few)) (Ok tt) now (refl, refl)

pub took_none : {C : Type 0} (calls : Calls C) (h : Host) (first now next : C) (i : ℕ) (what : Option Inbound) → i < 16 → Took calls h first i now → what ≡ None → calls.takes now h (Ok what) next → Takings calls h 16 first (Ok tt) next
took_none calls h first now next i what lt before is taken = before.goes (suc (15 - i)) (omega (arith, lt)) (Ok tt) next (Ok None, next, subst (λ o. calls.takes now h (Ok o) next) is taken, (refl, refl))

pub took_refused : {C : Type 0} (calls : Calls C) (h : Host) (first now next : C) (i : ℕ) (f : CarrierFault) (r : Result (Unit {0}) CarrierFault) → i < 16 → Took calls h first i now → calls.takes now h (Err f) next → r ≡ calmly (Err f)
    → Takings calls h 16 first r next
took_refused calls h first now next i f r lt before taken is = before.goes (suc (15 - i)) (omega (arith, lt)) r next (Err f, next, taken, (is, refl))

-- ---- a round

-- the quiet round and the takings of the first hosts are done: whatever the other hosts take continues from there
pub record Turned {C : Type 0} (calls : Calls C) (first : C) (i : ℕ) (now : C) : Type 0 where
  pub goes : (r : Result (Unit {0}) CarrierFault) (new : C) → AllTake calls (drop i (calls.seen first).hosts) now r new → Round calls first r new
  pub grew : Grew (calls.seen first) (calls.seen now)

pub none_turned : {C : Type 0} (calls : Calls C) (first now : C) (answer : Result (Unit {0}) CarrierFault) → calls.rounds first answer now → Ok tt ≡ calmly answer → Grew (calls.seen first) (calls.seen now) → Turned calls first 0 now
none_turned calls first now answer quiet is grew = record {
  goes = λ r new k. (Ok tt, now, (answer, quiet, is), k);
  grew = grew;
}

next_host : (hosts : List Host) (i : ℕ) (h : Host) → i < length hosts → h ≡ get_or hosts i h → drop i hosts ≡ h ∷ drop (i + 1) hosts
next_host hosts i h lt is = drop_more hosts i h lt ∙ ap (λ (x : Host). x ∷ drop (i + 1) hosts) (sym is)

pub one_turned : {C : Type 0} (calls : Calls C) (first now next : C) (i : ℕ) (h : Host) → i < length (calls.seen first).hosts → h ≡ get_or (calls.seen first).hosts i h → Turned calls first i now
    → Takings calls h 16 now (Ok tt) next → Grew (calls.seen now) (calls.seen next) → Turned calls first (i + 1) next
one_turned calls first now next i h lt is before taken grew = record {
  goes = λ r new k. before.goes r new (subst (λ hs. AllTake calls hs now r new) (sym (next_host (calls.seen first).hosts i h lt is)) (Ok tt, next, taken, k));
  grew = grew_more (calls.seen first) (calls.seen now) (calls.seen next) before.grew grew;
}

pub turn_ends : {C : Type 0} (calls : Calls C) (first now next : C) (i : ℕ) (h : Host) (f : CarrierFault) → i < length (calls.seen first).hosts → h ≡ get_or (calls.seen first).hosts i h → Turned calls first i now
    → Takings calls h 16 now (Err f) next → Round calls first (Err f) next
turn_ends calls first now next i h f lt is before taken =
    before.goes (Err f) next (subst (λ hs. AllTake calls hs now (Err f) next) (sym (next_host (calls.seen first).hosts i h lt is)) (Err f, next, taken, (refl, refl)))

pub all_turned : {C : Type 0} (calls : Calls C) (first now : C) (i : ℕ) → length (calls.seen first).hosts ≤ i → Turned calls first i now → Round calls first (Ok tt) now
all_turned calls first now i le before =
    before.goes (Ok tt) now (subst (λ hs. AllTake calls hs now (Ok tt) now) (sym (drop_all i (calls.seen first).hosts le)) (refl, refl))

-- ---- rounds

-- this many rounds have passed, and what crossed in them is printed
pub record Passed {C : Type 0} (calls : Calls C) (detail : Detail) (first : C) (times i : ℕ) (now : C) (before after : Option (List ℕ)) : Type 0 where
  pub few : i ≤ times
  pub goes : (left : ℕ) (r : Result (Unit {0}) CarrierFault) (new : C) → Rounds calls left now r new → Rounds calls (i + left) first r new
  pub crossings : List Crossing
  pub grown : (calls.seen now).log ≡ reverse crossings ++ (calls.seen first).log
  pub written : Appends before after (output detail (shown_crossings crossings))

is_done : (r : Result (Unit {0}) CarrierFault) → IfErr r (λ f. Halts (Err f)) → GoesOn r → r ≡ Ok tt
is_done (Ok done) told goes = refl
is_done (Err f) told goes = absurd (false≢true (sym goes ∙ told))

-- crossings in turn
pub grown_more : (old mid new cs ds : List Crossing) → mid ≡ reverse cs ++ old → new ≡ reverse ds ++ mid → new ≡ reverse (cs ++ ds) ++ old
grown_more old mid new cs ds h k = k ∙ ap (λ log. reverse ds ++ log) h ∙ sym (append_assoc (reverse ds) (reverse cs) old) ∙ ap (λ log. log ++ old) (sym (reverse-append cs ds))

written_more : (detail : Detail) (a b c : Option (List ℕ)) (cs ds : List Crossing) → Appends a b (output detail (shown_crossings cs)) → Appends b c (output detail (shown_crossings ds)) → Appends a c (output detail (shown_crossings (cs ++ ds)))
written_more detail a b c cs ds h k =
    subst (Appends a c) (sym (ap (output detail) (shown_crossings-append cs ds) ∙ output-append detail (shown_crossings cs) (shown_crossings ds)))
    (Appends-trans a b c (output detail (shown_crossings cs)) (output detail (shown_crossings ds)) h k)

-- one round more
pub one_passed : {C : Type 0} (calls : Calls C) (detail : Detail) (first now next : C) (times i : ℕ) (outcome : Result (Unit {0}) CarrierFault) (old_log new_log : List Crossing) (a b c : Option (List ℕ))
    → i < times → Passed calls detail first times i now a b → Round calls now outcome next → Grew (calls.seen now) (calls.seen next) → IfErr outcome (λ f. Halts (Err f))
    → old_log ≡ reverse (calls.seen now).log → new_log ≡ reverse (calls.seen next).log → PrintEnds detail (drop (length old_log) new_log) outcome (Ok tt) b c → Passed calls detail first times (i + 1) next a c
one_passed {C} calls detail first now next times i outcome old_log new_log a b c lt before round grew told was is printed =
    let done : outcome ≡ Ok tt = is_done outcome told printed.0 in
    let crossings : List Crossing = drop (length old_log) new_log in
    let plain : output detail (shown_crossings crossings ++ shown_refusal outcome) ≡ output detail (shown_crossings crossings) =
    ap (λ r. output detail (shown_crossings crossings ++ shown_refusal r)) done ∙ ap (output detail) (append-nil (shown_crossings crossings)) in
    record {
      few = omega (arith, lt);
      goes = λ left r new h.
          let all : i + suc left ≡ i + 1 + left = omega arith in
          subst (λ n. Rounds calls n first r new) all
          (before.goes (suc left) r new (Ok tt, next, subst (λ o. Round calls now o next) done round, h));
      crossings = before.crossings ++ crossings;
      grown = grown_more (calls.seen first).log (calls.seen now).log (calls.seen next).log before.crossings crossings before.grown (gained (calls.seen now) (calls.seen next) old_log new_log grew was is);
      written = written_more detail a b c before.crossings crossings before.written (subst (Appends b c) plain printed.1);
    }

-- all rounds have passed
pub all_passed : {C : Type 0} (calls : Calls C) (detail : Detail) (first now : C) (times i : ℕ) (a b : Option (List ℕ)) → times ≤ i → Passed calls detail first times i now a b → EventEnds calls detail first (event.Calm times) (Ok tt) now a b
all_passed calls detail first now times i a b le before =
    let few = before.few in
    let all : i + 0 ≡ times = omega (arith, le, few) in
    record {
      shown = shown_crossings before.crossings ++ [];
      is_shown = record {
        outcome = Ok tt;
        gives = subst (λ n. Rounds calls n first (Ok tt) now) all (before.goes 0 (Ok tt) now (refl, refl));
        goes_on = tt;
        crossings = before.crossings;
        grown = before.grown;
        lines = refl;
      };
      written = subst (λ shown. Appends a b (output detail shown)) (sym (append-nil (shown_crossings before.crossings))) before.written;
    }

ends_here : {C : Type 0} (calls : Calls C) (r : Result (Unit {0}) CarrierFault) (new : C) → Onward (Rounds calls 0) r new r new
ends_here calls (Ok done) new = (refl, refl)
ends_here calls (Err f) new = (refl, refl)

no_more : {C : Type 0} (calls : Calls C) (left : ℕ) (r : Result (Unit {0}) CarrierFault) (new : C) → Halts r → Onward (Rounds calls left) r new r new
no_more calls left (Ok done) new halts = absurd halts
no_more calls left (Err f) new halts = (refl, refl)

-- a calm ends within its rounds
pub passed_ends : {C : Type 0} (calls : Calls C) (detail : Detail) (first now next : C) (times i : ℕ) (outcome : Result (Unit {0}) CarrierFault) (e : ReplayFault) (old_log new_log : List Crossing) (a b c : Option (List ℕ))
    → i < times → Passed calls detail first times i now a b → Round calls now outcome next → Grew (calls.seen now) (calls.seen next)
    → old_log ≡ reverse (calls.seen now).log → new_log ≡ reverse (calls.seen next).log → PrintEnds detail (drop (length old_log) new_log) outcome (Err e) b c → EventEnds calls detail first (event.Calm times) (Err e) next a c
passed_ends calls detail first now next times i outcome fault.OutOfMemory old_log new_log a b c lt before round grew was is printed =
    let crossings : List Crossing = drop (length old_log) new_log in
    let all : i + suc (times - (i + 1)) ≡ times = omega (arith, lt) in
    record {
      shown = shown_crossings (before.crossings ++ crossings);
      is_shown = record {
        runs_out = inr (outcome, subst (λ n. Rounds calls n first outcome next) all (before.goes (suc (times - (i + 1))) outcome next (outcome, next, round, no_more calls (times - (i + 1)) outcome next printed.0)), printed.0);
        crossings = before.crossings ++ crossings;
        grown = grown_more (calls.seen first).log (calls.seen now).log (calls.seen next).log before.crossings crossings before.grown (gained (calls.seen now) (calls.seen next) old_log new_log grew was is);
        lines = refl;
        no_lines = λ one. absurd one;
      };
      written = written_more detail a b c before.crossings crossings before.written printed.1;
    }
passed_ends calls detail first now next times i outcome fault.CannotWrite old_log new_log a b c lt before round grew was is printed = (
  [],
  record {
    processed = event.Calm (i + 1);
    begins = (i + 1, refl, omega (arith, lt));
    outcome = outcome;
    gives = before.goes 1 outcome next (outcome, next, round, ends_here calls outcome next);
    unknown = refl;
  },
)

-- ---- a carrier that rests

goes_on : (f : CarrierFault) (halts wants : Bool) → halts ≡ false → wants ≡ false → ◌≡◌ {A = Result (Unit {0}) CarrierFault} (Ok tt) (if halts || wants then Err f else Ok tt)
goes_on f true wants e n = absurd (false≢true (sym e))
goes_on f false true e n = absurd (false≢true (sym n))
goes_on f false false e n = refl

host_rests : {C : Type 0} (calls : Calls C) (h : Host) (c : C) → TakesNothing calls.takes c h → Takings calls h 16 c (Ok tt) c
host_rests {C} calls h c t = by t.answer t.nothing t.unchanged where
  by : (answer : Result (Option Inbound) CarrierFault) → BringsNothing answer → calls.takes c h answer c → Takings calls h 16 c (Ok tt) c
  by (Ok None) nothing same = (Ok None, c, same, (refl, refl))
  by (Ok (Some i)) nothing same = absurd nothing
  by (Err f) nothing same = (Err f, c, same, (goes_on f (is_halt f) (is_memory f) nothing.0 nothing.1, refl))

hosts_rest : {C : Type 0} (calls : Calls C) (hosts : List Host) (c : C) → ((h : Host) → TakesNothing calls.takes c h) → AllTake calls hosts c (Ok tt) c
hosts_rest calls [] c none = (refl, refl)
hosts_rest calls (h ∷ hosts) c none = (Ok tt, c, host_rests calls h c (none h), hosts_rest calls hosts c none)

rounds_rest : {C : Type 0} (calls : Calls C) (times : ℕ) (c : C) → RestsBeside calls.rounds calls.takes [] c → Rounds calls times c (Ok tt) c
rounds_rest calls zero c rest = (refl, refl)
rounds_rest calls (suc times) c rest =
    (Ok tt, c, (Ok tt, c, (Ok tt, rest.round, refl), hosts_rest calls (calls.seen c).hosts c (λ h. rest.takings h refl)), rounds_rest calls times c rest)

-- the rounds that are left would change nothing, and show nothing
pub rest_passed : {C : Type 0} (calls : Calls C) (detail : Detail) (first now : C) (times i : ℕ) (a b : Option (List ℕ)) → Passed calls detail first times i now a b → RestsBeside calls.rounds calls.takes [] now
    → EventEnds calls detail first (event.Calm times) (Ok tt) now a b
rest_passed calls detail first now times i a b before rest =
    let few = before.few in
    let all : i + (times - i) ≡ times = omega (arith, few) in
    record {
      shown = shown_crossings before.crossings ++ [];
      is_shown = record {
        outcome = Ok tt;
        gives = subst (λ n. Rounds calls n first (Ok tt) now) all (before.goes (times - i) (Ok tt) now (rounds_rest calls (times - i) now rest));
        goes_on = tt;
        crossings = before.crossings;
        grown = before.grown;
        lines = refl;
      };
      written = subst (λ shown. Appends a b (output detail shown)) (sym (append-nil (shown_crossings before.crossings))) before.written;
    }
