-- A calm is traced round by round, a round event by event.
use Rattle.world_trace.proofs.Common.{append_assoc, append-nil, Appends, Calls, WorldState, Event, Quiet, ReplayFault, WritesTrace, Spot, AllParts}
use Rattle.std.proofs.Common.{◌≡◌, inl, inr, ℕ, zero, suc, ◌<◌, ◌≤◌, ◌+◌, true, false, List, [], ◌∷◌, ◌++◌, Option, Ok, Err, arith, refl, sym, ap, subst, ◌∙◌, ◌-◌}
use Rattle.net_sim.specs.Rest.{IsAtRest}
use Rattle.replay.proofs.lemmas.{appends_more, appends_none, last_shown, last_written, one_written, text_of-append}
use Rattle.replay.specs.InTurn.{Happening, InTurn, text_of}
use Rattle.world_replay.proofs.lemmas.{when_false, when_true}
use Rattle.world_replay.specs.Rounds.{Again, Repeated, crosses, turns_in, EndsAgain, EndsRepeated}
use Rattle.world_trace.specs.Steps.{AgainEnds, EventEnds, RoundEnds, StepEnds, EndsRoundAt}
use Rattle.world_trace.specs.Traces.{MayTell, StopsOne, TellsInCalm, TellsRound, first_rounds}
use Rattle.std.proofs.lemmas.Bool.{cases_lt}
use Rattle.replay.specs.declared.events.ReplayFault.TheVariants as fault
use Rattle.world_script.specs.declared.event.WorldEvent.TheVariants as world
use Rattle.world_trace.proofs.Rounds.Resting.{round_rests}
use Rattle.world_trace.proofs.Telling.{SoFar, all_done, ends_so, fails_so, no_line, none_yet}

-- ---- an event again and again

-- what follows these events makes this many more of them
abbrev Leads : {C : Type 0} → (Event → ℕ → WorldState C → WorldState C → List (List ℕ) → Type 0) → Event → ℕ → WorldState C → WorldState C → List (List ℕ) → Type 0
Leads {C} Goes e count old now lines = (left : ℕ) (new : WorldState C) (rest : List (List ℕ)) → Goes e left now new rest → Goes e (count + left) old new (lines ++ rest)

-- this many of them have happened, something has crossed by each, and their lines are written
pub record HaveSteps {C : Type 0} (calls : Calls C) (members : C → AllParts) (spot : Spot) (round : ℕ) (e : Event) (count : ℕ) (old now : WorldState C) (a b : Option (List ℕ)) : Type 0 where
  pub lines : List (List ℕ)
  pub goes : Leads (Repeated (TellsInCalm calls members spot round)) e count old now lines
  pub stops : Leads (EndsRepeated (TellsInCalm calls members spot round) (StopsOne calls)) e count old now lines
  pub fails : Leads (EndsRepeated (TellsInCalm calls members spot round) (MayTell calls)) e count old now lines
  pub written : Appends a b (text_of (λ line. line) lines)

leads_none : {C : Type 0} (Goes : Event → ℕ → WorldState C → WorldState C → List (List ℕ) → Type 0) (e : Event) (w : WorldState C) → Leads Goes e 0 w w []
leads_none Goes e w = λ left new rest h. let same : left ≡ 0 + left = omega arith in subst (λ n. Goes e n w new rest) same h

leads_more : {C : Type 0} (Goes : Event → ℕ → WorldState C → WorldState C → List (List ℕ) → Type 0) (e : Event) (count : ℕ) (old now mid : WorldState C) (lines first : List (List ℕ)) → Leads Goes e count old now lines
    → ((left : ℕ) (new : WorldState C) (rest : List (List ℕ)) → Goes e left mid new rest → Goes e (suc left) now new (first ++ rest)) → Leads Goes e (count + 1) old mid (lines ++ first)
leads_more Goes e count old now mid lines first leads one = λ left new rest h. (
    let all : Goes e (count + suc left) old new (lines ++ (first ++ rest)) = leads (suc left) new (first ++ rest) (one left new rest h) in
    let same : count + suc left ≡ (count + 1) + left = omega arith in
    subst (λ n. Goes e n old new ((lines ++ first) ++ rest)) same (subst (λ (ls : List (List ℕ)). Goes e (count + suc left) old new ls) (sym (append_assoc lines first rest)) all))

pub no_steps : {C : Type 0} (calls : Calls C) (members : C → AllParts) (spot : Spot) (round : ℕ) (e : Event) (w : WorldState C) (a : Option (List ℕ)) → HaveSteps calls members spot round e 0 w w a a
no_steps calls members spot round e w a = record {
  lines = [];
  goes = leads_none (Repeated (TellsInCalm calls members spot round)) e w;
  stops = leads_none (EndsRepeated (TellsInCalm calls members spot round) (StopsOne calls)) e w;
  fails = leads_none (EndsRepeated (TellsInCalm calls members spot round) (MayTell calls)) e w;
  written = appends_none a;
}

both_written : (lines more : List (List ℕ)) (a b c : Option (List ℕ)) → Appends a b (text_of (λ line. line) lines) → Appends b c (text_of (λ line. line) more) → Appends a c (text_of (λ line. line) (lines ++ more))
both_written lines more a b c h k = subst (Appends a c) (sym (text_of-append (λ line. line) lines more)) (appends_more a b c (text_of (λ line. line) lines) (text_of (λ line. line) more) h k)

-- one more, by which something crossed
pub one_step : {C : Type 0} (calls : Calls C) (members : C → AllParts) (spot : Spot) (round : ℕ) (e : Event) (count : ℕ) (old now mid : WorldState C) (a b c : Option (List ℕ)) → HaveSteps calls members spot round e count old now a b
    → StepEnds calls members spot round now e (Ok tt) mid b c → crosses now mid ≡ true → HaveSteps calls members spot round e (count + 1) old mid a c
one_step {C} calls members spot round e count old now mid a b c h k grew =
    let Tells : Happening (WorldState C) Event (List ℕ) = TellsInCalm calls members spot round in
    record {
      lines = h.lines ++ k.shown;
      goes = leads_more (Repeated Tells) e count old now mid h.lines k.shown h.goes (λ left new rest more. (mid, k.shown, rest, k.is_shown, when_true (Repeated Tells e left mid new rest) ((new ≡ mid) × (rest ≡ [])) (crosses now mid) grew more, refl));
      stops = leads_more (EndsRepeated Tells (StopsOne calls)) e count old now mid h.lines k.shown h.stops (λ left new rest more. inr (mid, k.shown, rest, k.is_shown, grew, more, refl));
      fails = leads_more (EndsRepeated Tells (MayTell calls)) e count old now mid h.lines k.shown h.fails (λ left new rest more. inr (mid, k.shown, rest, k.is_shown, grew, more, refl));
      written = both_written h.lines k.shown a b c h.written k.written;
    }

-- all of them
pub all_steps : {C : Type 0} (calls : Calls C) (members : C → AllParts) (spot : Spot) (round : ℕ) (e : Event) (count times : ℕ) (old now : WorldState C) (a b : Option (List ℕ)) → count ≡ times → HaveSteps calls members spot round e count old now a b
    → AgainEnds calls members spot round old (e, times) (Ok tt) now a b
all_steps {C} calls members spot round e count times old now a b all h =
    let Tells : Happening (WorldState C) Event (List ℕ) = TellsInCalm calls members spot round in
    let same : count + 0 ≡ times = omega (arith, all) in
    record {
      shown = h.lines;
      is_shown = subst (λ n. Repeated Tells e n old now h.lines) same (subst (λ (ls : List (List ℕ)). Repeated Tells e (count + 0) old now ls) (append-nil h.lines) (h.goes 0 now [] (refl, refl)));
      written = h.written;
    }

-- one more, by which nothing crossed
pub last_step : {C : Type 0} (calls : Calls C) (members : C → AllParts) (spot : Spot) (round : ℕ) (e : Event) (count times : ℕ) (old now mid : WorldState C) (a b c : Option (List ℕ)) → count < times → HaveSteps calls members spot round e count old now a b
    → StepEnds calls members spot round now e (Ok tt) mid b c → crosses now mid ≡ false → AgainEnds calls members spot round old (e, times) (Ok tt) mid a c
last_step {C} calls members spot round e count times old now mid a b c lt h k none =
    let Tells : Happening (WorldState C) Event (List ℕ) = TellsInCalm calls members spot round in
    let left : ℕ = times - (count + 1) in
    let same : count + suc left ≡ times = omega (arith, lt) in
    let last : Repeated Tells e (suc left) now mid k.shown = (mid, k.shown, [], k.is_shown, when_false (Repeated Tells e left mid mid []) ((mid ≡ mid) × ([] ≡ [])) (crosses now mid) none (refl, refl), sym (append-nil k.shown)) in
    record {
      shown = h.lines ++ k.shown;
      is_shown = subst (λ n. Repeated Tells e n old mid (h.lines ++ k.shown)) same (h.goes (suc left) mid k.shown last);
      written = both_written h.lines k.shown a b c h.written k.written;
    }

-- one more, in which it ends
pub step_ends : {C : Type 0} (calls : Calls C) (members : C → AllParts) (spot : Spot) (round : ℕ) (e : Event) (count times : ℕ) (old now mid : WorldState C) (f : ReplayFault) (a b c : Option (List ℕ)) → count < times → HaveSteps calls members spot round e count old now a b
    → StepEnds calls members spot round now e (Err f) mid b c → AgainEnds calls members spot round old (e, times) (Err f) mid a c
step_ends {C} calls members spot round e count times old now mid fault.OutOfMemory a b c lt h k =
    let Tells : Happening (WorldState C) Event (List ℕ) = TellsInCalm calls members spot round in
    let left : ℕ = times - (count + 1) in
    let same : count + suc left ≡ times = omega (arith, lt) in
    record {
      shown = h.lines ++ k.shown;
      is_shown = subst (λ n. EndsRepeated Tells (StopsOne calls) e n old mid (h.lines ++ k.shown)) same (h.stops (suc left) mid k.shown (inl k.is_shown));
      written = both_written h.lines k.shown a b c h.written k.written;
    }
step_ends {C} calls members spot round e count times old now mid fault.CannotWrite a b c lt h (lines, k) =
    let Tells : Happening (WorldState C) Event (List ℕ) = TellsInCalm calls members spot round in
    let left : ℕ = times - (count + 1) in
    let same : count + suc left ≡ times = omega (arith, lt) in
    (h.lines ++ lines, subst (λ n. EndsRepeated Tells (MayTell calls) e n old mid (h.lines ++ lines)) same (h.fails (suc left) mid lines (inl k)))

-- ---- the events of a round

-- the first ones happened, and those are left
abbrev pub InRound : {C : Type 0} → Calls C → (C → AllParts) → Spot → ℕ → WorldState C → List (Event × ℕ) → WorldState C → Option (List ℕ) → Option (List ℕ) → Type 0
InRound calls members spot round old left now a b = SoFar (Again (TellsInCalm calls members spot round)) old (turns_in old.seats) left now a b

pub round_done : {C : Type 0} (calls : Calls C) (members : C → AllParts) (spot : Spot) (round : ℕ) (old now : WorldState C) (left : List (Event × ℕ)) (a b : Option (List ℕ)) → left ≡ [] → InRound calls members spot round old left now a b
    → RoundEnds calls members spot old round (Ok tt) now a b
round_done calls members spot round old now left a b none h = all_done (Again (TellsInCalm calls members spot round)) old now (turns_in old.seats) left a b none h

-- one of them ends the round
pub round_early : {C : Type 0} (calls : Calls C) (members : C → AllParts) (spot : Spot) (round : ℕ) (old now mid : WorldState C) (left later : List (Event × ℕ)) (e : Event × ℕ) (f : ReplayFault) (a b c : Option (List ℕ)) → left ≡ e ∷ later
    → InRound calls members spot round old left now a b → AgainEnds calls members spot round now e (Err f) mid b c → RoundEnds calls members spot old round (Err f) mid a c
round_early calls members spot round old now mid left later e fault.OutOfMemory a b c is h k =
    ends_so (Again (TellsInCalm calls members spot round)) (EndsAgain (TellsInCalm calls members spot round) (StopsOne calls)) old now mid (turns_in old.seats) left later e a b c is h k
round_early calls members spot round old now mid left later e fault.CannotWrite a b c is h k =
    fails_so (Again (TellsInCalm calls members spot round)) (EndsAgain (TellsInCalm calls members spot round) (MayTell calls)) old now mid (turns_in old.seats) left later e a b is h k

-- memory ran out before the first of them
pub round_unbegun : {C : Type 0} (calls : Calls C) (members : C → AllParts) (spot : Spot) (round : ℕ) (old : WorldState C) (a : Option (List ℕ)) → RoundEnds calls members spot old round (Err fault.OutOfMemory) old a a
round_unbegun calls members spot round old a =
    let Tells = TellsInCalm calls members spot round in
    round_early calls members spot round old old old (turns_in old.seats) _ (Quiet, 1) fault.OutOfMemory a a a refl (none_yet (Again Tells) old (turns_in old.seats) a)
    (no_line (EndsAgain Tells (StopsOne calls) old (Quiet, 1) old) a (inl (inl (refl, refl))))

-- ---- the rounds of a calm

-- this many rounds have passed
abbrev pub Passed : {C : Type 0} → Calls C → (C → AllParts) → Spot → ℕ → WorldState C → WorldState C → Option (List ℕ) → Option (List ℕ) → Type 0
Passed calls members spot passed old now a b = WritesTrace (InTurn (TellsRound calls members spot) old (first_rounds passed) now) a b

pub none_passed : {C : Type 0} (calls : Calls C) (members : C → AllParts) (spot : Spot) (old : WorldState C) (a : Option (List ℕ)) → Passed calls members spot 0 old old a a
none_passed calls members spot old a = no_line (InTurn (TellsRound calls members spot) old [] old) a (refl, refl)

next_round : (passed : ℕ) → first_rounds (passed + 1) ≡ first_rounds passed ++ (passed + 1) ∷ []
next_round passed =
    let is : suc passed ≡ passed + 1 = omega arith in
    ap first_rounds (sym is) ∙ ap (λ n. first_rounds passed ++ n ∷ []) is

pub one_passed : {C : Type 0} (calls : Calls C) (members : C → AllParts) (spot : Spot) (passed : ℕ) (old mid new : WorldState C) (a b c : Option (List ℕ)) → Passed calls members spot passed old mid a b
    → WritesTrace (TellsRound calls members spot mid (passed + 1) new) b c → Passed calls members spot (passed + 1) old new a c
one_passed {C} calls members spot passed old mid new a b c h k =
    subst (λ (rounds : List ℕ). WritesTrace (InTurn (TellsRound calls members spot) old rounds new) a c) (sym (next_round passed))
    (one_written (TellsRound calls members spot) (λ line. line) old mid new (first_rounds passed) (passed + 1) a b c h k)

-- they are the first of more
first_of : (passed rounds : ℕ) → passed < rounds → (left : List ℕ) × (first_rounds rounds ≡ first_rounds passed ++ (passed + 1) ∷ left)
first_of passed zero lt = absurd (omega (arith, lt))
first_of passed (suc rounds) lt = elim (cases_lt passed rounds) [
  | inl less ↦
      let (left, is) = first_of passed rounds less in
      (left ++ suc rounds ∷ [], ap (λ xs. xs ++ suc rounds ∷ []) is ∙ append_assoc (first_rounds passed) ((passed + 1) ∷ left) (suc rounds ∷ []))
  | inr more ↦
      let same : rounds ≡ passed = omega (arith, lt, more) in
      let next : suc passed ≡ passed + 1 = omega arith in
      ([], ap (λ n. first_rounds (suc n)) same ∙ ap (λ n. first_rounds passed ++ n ∷ []) next)
]

-- further rounds, which leave all as it is
rested : {C : Type 0} (calls : Calls C) (members : C → AllParts) (spot : Spot) (left passed rounds : ℕ) (old now : WorldState C) (a b : Option (List ℕ)) → passed + left ≡ rounds → IsAtRest calls now → Passed calls members spot passed old now a b
    → Passed calls members spot rounds old now a b
rested calls members spot zero passed rounds old now a b all rest h =
    let same : passed ≡ rounds = omega (arith, all) in
    subst (λ n. Passed calls members spot n old now a b) same h
rested calls members spot (suc left) passed rounds old now a b all rest h =
    let more : passed + 1 + left ≡ rounds = omega (arith, all) in
    rested calls members spot left (passed + 1) rounds old now a b more rest
    (one_passed calls members spot passed old now now a b b h (no_line (TellsRound calls members spot now (passed + 1) now) b (round_rests calls members spot (passed + 1) now rest)))

pub calm_rests : {C : Type 0} (calls : Calls C) (members : C → AllParts) (spot : Spot) (passed rounds : ℕ) (old now : WorldState C) (a b : Option (List ℕ)) → passed ≤ rounds → IsAtRest calls now → Passed calls members spot passed old now a b
    → EventEnds calls members spot old (world.Calm rounds) (Ok tt) now a b
calm_rests calls members spot passed rounds old now a b few rest h =
    let all : passed + (rounds - passed) ≡ rounds = omega (arith, few) in
    rested calls members spot (rounds - passed) passed rounds old now a b all rest h

pub calm_passed : {C : Type 0} (calls : Calls C) (members : C → AllParts) (spot : Spot) (passed rounds : ℕ) (old now : WorldState C) (a b : Option (List ℕ)) → passed ≡ rounds → Passed calls members spot passed old now a b → EventEnds calls members spot old (world.Calm rounds) (Ok tt) now a b
calm_passed calls members spot passed rounds old now a b all h = subst (λ n. Passed calls members spot n old now a b) all h

pub calm_early : {C : Type 0} (calls : Calls C) (members : C → AllParts) (spot : Spot) (passed rounds : ℕ) (old mid new : WorldState C) (f : ReplayFault) (a b c : Option (List ℕ)) → passed < rounds → Passed calls members spot passed old mid a b
    → RoundEnds calls members spot mid (passed + 1) (Err f) new b c → EventEnds calls members spot old (world.Calm rounds) (Err f) new a c
calm_early {C} calls members spot passed rounds old mid new fault.OutOfMemory a b c lt h k =
    let (left, is) = first_of passed rounds lt in
    last_written (TellsRound calls members spot) (EndsRoundAt calls members spot (StopsOne calls)) (λ line. line) old mid new (first_rounds rounds) (first_rounds passed) (passed + 1) left a b c is h k
calm_early {C} calls members spot passed rounds old mid new fault.CannotWrite a b c lt h (lines, k) =
    let (left, is) = first_of passed rounds lt in (
      h.shown ++ lines,
      last_shown (TellsRound calls members spot) (EndsRoundAt calls members spot (MayTell calls)) old mid new (first_rounds rounds) (first_rounds passed) (passed + 1) left h.shown lines is h.is_shown k,
    )

-- memory ran out before the first round
pub calm_unbegun : {C : Type 0} (calls : Calls C) (members : C → AllParts) (spot : Spot) (rounds : ℕ) (old : WorldState C) (a : Option (List ℕ)) → 0 < rounds → EventEnds calls members spot old (world.Calm rounds) (Err fault.OutOfMemory) old a a
calm_unbegun calls members spot rounds old a some =
    calm_early calls members spot 0 rounds old old old fault.OutOfMemory a a a some (none_passed calls members spot old a) (round_unbegun calls members spot 1 old a)
