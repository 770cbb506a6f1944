-- A settled carrier leaves a replay no choice.
use Rattle.replay.proofs.Common.{Host, Crossing, Shown, shown_crossings, shown_refusal, RawEvent}
use Rattle.std.proofs.Common.{◌≡◌, ◌||◌, ◌⊎◌, ℕ, zero, suc, Bool, true, false, List, [], ◌∷◌, ◌++◌, Option, Some, None, Result, Ok, Err, if◌then◌else◌, reverse, refl, sym, ap, ap₂, subst, ◌∙◌, inl, inr}
use Rattle.std.proofs.lemmas.List.{append_assoc, append_cancel_right, reverse-reverse, reverse-append}
use Rattle.interface.specs.Calls.{Calls, is_halt, is_memory}
use Rattle.interface.specs.declared.CarrierFault.{CarrierFault}
use Rattle.interface.specs.declared.Inbound.{Inbound}
use Rattle.replay.specs.InTurn.{HappensOnce}
use Rattle.replay.specs.Replay.{AllTake, Chain, EndsIn, EventGives, GoesOn, Halts, Happens, IfGiven, IsCopied, Nothing, Onward, Part, Quiet, Replays, Round, Rounds, StopsIn, Takings, calmly, outcome_of}
use Rattle.replay.specs.Settled.{AreSettled, Grows, SameEnd}
use Rattle.replay.proofs.InTurn.{ends_front, in_turn_once}
use Rattle.replay.proofs.Shown.{shown_crossings-append}
use Rattle.script.specs.declared.event.RawEvent.TheVariants as event

-- ---- running out of memory

kept_calm : (f : CarrierFault) (halts : Bool) → GoesOn (if halts then Err f else Ok tt) → (is_halt f || is_memory f) ≡ halts → (is_halt f || is_memory f) ≡ false
kept_calm f true goes is = goes
kept_calm f false goes is = is

goes_calm : (r : Result (Unit {0}) CarrierFault) → GoesOn (calmly r) → GoesOn r
goes_calm (Ok done) goes = tt
goes_calm (Err f) goes = kept_calm f (is_halt f || is_memory f) goes refl

goes_first : {C : Type 0} (Next : Part C) (first : Result (Unit {0}) CarrierFault) (mid : C) (r : Result (Unit {0}) CarrierFault) (new : C) → Onward Next first mid r new → GoesOn r → GoesOn first
goes_first Next (Ok done) mid r new h goes = tt
goes_first Next (Err f) mid r new h goes = subst GoesOn h.0 goes

-- ---- logs that only grow

stays : {C : Type 0} (calls : Calls C) (old new : C) → (calls.seen new).log ≡ (calls.seen old).log → Grows calls old new
stays calls old new same = record { crossings = []; grown = same }

grows_on : {C : Type 0} (calls : Calls C) (old mid new : C) → Grows calls old mid → Grows calls mid new → Grows calls old new
grows_on calls old mid new h k = record {
  crossings = k.crossings ++ h.crossings;
  grown = k.grown ∙ ap (λ log. k.crossings ++ log) h.grown ∙ sym (append_assoc k.crossings h.crossings (calls.seen old).log);
}

same_grows : {C : Type 0} (calls : Calls C) (old new : C) → new ≡ old → Grows calls old new
same_grows calls old new same = stays calls old new (ap (λ c. (calls.seen c).log) same)

-- ---- the parts of a calm

-- a part goes one way, running out of memory aside; it only adds crossings; and where memory ran out, what crossed by then is the
-- first of what crosses in the whole part
record Steady {C : Type 0} (calls : Calls C) (P : Part C) : Type 0 where
  once : (old : C) (r q : Result (Unit {0}) CarrierFault) (new other : C) → P old r new → GoesOn r → P old q other → GoesOn q → SameEnd r q new other
  grows : (old : C) (r : Result (Unit {0}) CarrierFault) (new : C) → P old r new → Grows calls old new
  first : (old : C) (r q : Result (Unit {0}) CarrierFault) (new other : C) → P old r new → Halts r → P old q other → GoesOn q → Grows calls new other

no_halt : (r : Result (Unit {0}) CarrierFault) → r ≡ Ok tt → Halts r → ⊥
no_halt r e halts = subst Halts e halts

steady_nothing : {C : Type 0} (calls : Calls C) → Steady calls Nothing
steady_nothing calls = record {
  once = λ old r q new other h hg k kg. record { answers = h.0 ∙ sym k.0; carriers = h.1 ∙ sym k.1 };
  grows = λ old r new h. same_grows calls old new h.1;
  first = λ old r q new other h halts k goes. absurd (no_halt r h.0 halts);
}

-- ---- one part, and then the next

onward_once : {C : Type 0} (calls : Calls C) (Next : Part C) → Steady calls Next → (first : Result (Unit {0}) CarrierFault) (mid : C) (r q : Result (Unit {0}) CarrierFault) (new other : C)
    → Onward Next first mid r new → GoesOn r → Onward Next first mid q other → GoesOn q → SameEnd r q new other
onward_once calls Next steady (Ok done) mid r q new other h hg k kg = steady.once mid r q new other h hg k kg
onward_once calls Next steady (Err f) mid r q new other h hg k kg = record { answers = h.0 ∙ sym k.0; carriers = h.1 ∙ sym k.1 }

onward_grows : {C : Type 0} (calls : Calls C) (Next : Part C) → Steady calls Next → (first : Result (Unit {0}) CarrierFault) (mid : C) (r : Result (Unit {0}) CarrierFault) (new : C)
    → Onward Next first mid r new → Grows calls mid new
onward_grows calls Next steady (Ok done) mid r new h = steady.grows mid r new h
onward_grows calls Next steady (Err f) mid r new h = same_grows calls mid new h.1

moved : {C : Type 0} (Next : Part C) (first second : Result (Unit {0}) CarrierFault) (mid mid' : C) (r : Result (Unit {0}) CarrierFault) (new : C) → SameEnd first second mid mid' → Onward Next second mid' r new → Onward Next first mid r new
moved {C} Next first second mid mid' r new same h =
    subst (λ (c : C). Onward Next first c r new) (sym same.carriers) (subst (λ (s : Result (Unit {0}) CarrierFault). Onward Next s mid' r new) (sym same.answers) h)

chain_first : {C : Type 0} (calls : Calls C) (First Next : Part C) → Steady calls First → Steady calls Next → (old : C) (first second : Result (Unit {0}) CarrierFault) (mid mid' : C) (r q : Result (Unit {0}) CarrierFault) (new other : C)
    → First old first mid → Onward Next first mid r new → Halts r → First old second mid' → Onward Next second mid' q other → GoesOn q → Grows calls new other
chain_first calls First Next sf sn old (Ok done) second mid mid' r q new other h hn halts k kn goes =
    let same : SameEnd (Ok done) second mid mid' = sf.once old (Ok done) second mid mid' h tt k (goes_first Next second mid' q other kn goes) in
    sn.first mid r q new other hn halts (moved Next (Ok done) second mid mid' q other same kn) goes
chain_first {C} calls First Next sf sn old (Err f) second mid mid' r q new other h hn halts k kn goes =
    let ahead : Grows calls mid mid' = sf.first old (Err f) second mid mid' h (subst Halts hn.0 halts) k (goes_first Next second mid' q other kn goes) in
    subst (λ (c : C). Grows calls c other) (sym hn.1) (grows_on calls mid mid' other ahead (onward_grows calls Next sn second mid' q other kn))

steady_chain : {C : Type 0} (calls : Calls C) (First Next : Part C) → Steady calls First → Steady calls Next → Steady calls (Chain First Next)
steady_chain calls First Next sf sn = record {
  once = λ old r q new other h hg k kg.
      let same : SameEnd h.0 k.0 h.1 k.1 = sf.once old h.0 k.0 h.1 k.1 h.2 (goes_first Next h.0 h.1 r new h.3 hg) k.2 (goes_first Next k.0 k.1 q other k.3 kg) in
      onward_once calls Next sn h.0 h.1 r q new other h.3 hg (moved Next h.0 k.0 h.1 k.1 q other same k.3) kg;
  grows = λ old r new h. grows_on calls old h.1 new (sf.grows old h.0 h.1 h.2) (onward_grows calls Next sn h.0 h.1 r new h.3);
  first = λ old r q new other h halts k goes. chain_first calls First Next sf sn old h.0 k.0 h.1 k.1 r q new other h.2 h.3 halts k.2 k.3 goes;
}

-- ---- takings, quiet rounds, rounds

-- a taking after which a host continues, or ends without running out of memory, continued
taking_goes : (a : Result (Option Inbound) CarrierFault) (r : Result (Unit {0}) CarrierFault) (More Left : Type 0) → IfGiven a More ((r ≡ calmly (outcome_of a)) × Left) → GoesOn r → GoesOn (outcome_of a)
taking_goes (Ok (Some given)) r More Left h goes = tt
taking_goes (Ok None) r More Left h goes = tt
taking_goes (Err f) r More Left h goes = goes_calm (Err f) (subst GoesOn h.0 goes)

after_once : {C : Type 0} (calls : Calls C) (h : Host) (times : ℕ) → Steady calls (Takings calls h times) → (a : Result (Option Inbound) CarrierFault) (mid : C) (r q : Result (Unit {0}) CarrierFault) (new other : C)
    → IfGiven a (Takings calls h times mid r new) ((r ≡ calmly (outcome_of a)) × (new ≡ mid)) → GoesOn r → IfGiven a (Takings calls h times mid q other) ((q ≡ calmly (outcome_of a)) × (other ≡ mid)) → GoesOn q → SameEnd r q new other
after_once calls h times steady (Ok (Some given)) mid r q new other k kg l lg = steady.once mid r q new other k kg l lg
after_once calls h times steady (Ok None) mid r q new other k kg l lg = record { answers = k.0 ∙ sym l.0; carriers = k.1 ∙ sym l.1 }
after_once calls h times steady (Err f) mid r q new other k kg l lg = record { answers = k.0 ∙ sym l.0; carriers = k.1 ∙ sym l.1 }

after_grows : {C : Type 0} (calls : Calls C) (h : Host) (times : ℕ) → Steady calls (Takings calls h times) → (a : Result (Option Inbound) CarrierFault) (mid : C) (r : Result (Unit {0}) CarrierFault) (new : C)
    → IfGiven a (Takings calls h times mid r new) ((r ≡ calmly (outcome_of a)) × (new ≡ mid)) → Grows calls mid new
after_grows calls h times steady (Ok (Some given)) mid r new k = steady.grows mid r new k
after_grows calls h times steady (Ok None) mid r new k = same_grows calls mid new k.1
after_grows calls h times steady (Err f) mid r new k = same_grows calls mid new k.1

moved_taking : {C : Type 0} (calls : Calls C) (h : Host) (times : ℕ) (a b : Result (Option Inbound) CarrierFault) (mid mid' : C) (q : Result (Unit {0}) CarrierFault) (other : C) → SameEnd a b mid mid'
    → IfGiven b (Takings calls h times mid' q other) ((q ≡ calmly (outcome_of b)) × (other ≡ mid')) → IfGiven a (Takings calls h times mid q other) ((q ≡ calmly (outcome_of a)) × (other ≡ mid))
moved_taking {C} calls h times a b mid mid' q other same k =
    subst (λ (c : C). IfGiven a (Takings calls h times c q other) ((q ≡ calmly (outcome_of a)) × (other ≡ c))) (sym same.carriers)
    (subst (λ (x : Result (Option Inbound) CarrierFault). IfGiven x (Takings calls h times mid' q other) ((q ≡ calmly (outcome_of x)) × (other ≡ mid'))) (sym same.answers) k)

taking_first : {C : Type 0} (calls : Calls C) → AreSettled calls → (h : Host) (times : ℕ) → Steady calls (Takings calls h times) → (old : C) (a b : Result (Option Inbound) CarrierFault) (mid mid' : C) (r q : Result (Unit {0}) CarrierFault) (new other : C)
    → calls.takes old h a mid → IfGiven a (Takings calls h times mid r new) ((r ≡ calmly (outcome_of a)) × (new ≡ mid)) → Halts r
    → calls.takes old h b mid' → IfGiven b (Takings calls h times mid' q other) ((q ≡ calmly (outcome_of b)) × (other ≡ mid')) → GoesOn q → Grows calls new other
taking_first calls settled h times steady old (Ok (Some given)) b mid mid' r q new other t k halts u l goes =
    let same : SameEnd (Ok (Some given)) b mid mid' = settled.takes_once old h (Ok (Some given)) b mid mid' t tt u (taking_goes b q (Takings calls h times mid' q other) (other ≡ mid') l goes) in
    steady.first mid r q new other k halts (moved_taking calls h times (Ok (Some given)) b mid mid' q other same l) goes
taking_first calls settled h times steady old (Ok None) b mid mid' r q new other t k halts u l goes = absurd (no_halt r k.0 halts)
taking_first {C} calls settled h times steady old (Err f) b mid mid' r q new other t k halts u l goes =
    let whole : Grows calls old other = grows_on calls old mid' other (settled.taking_grows old h b mid' u) (after_grows calls h times steady b mid' q other l) in
    let stood : (calls.seen new).log ≡ (calls.seen old).log = ap (λ c. (calls.seen c).log) k.1 ∙ settled.refused_taking old h f mid t in
    record { crossings = whole.crossings; grown = whole.grown ∙ ap (λ log. whole.crossings ++ log) (sym stood) }

steady_takings : {C : Type 0} (calls : Calls C) → AreSettled calls → (h : Host) (times : ℕ) → Steady calls (Takings calls h times)
steady_takings calls settled h zero = steady_nothing calls
steady_takings calls settled h (suc times) =
    let steady : Steady calls (Takings calls h times) = steady_takings calls settled h times in
    record {
      once = λ old r q new other k kg l lg.
          let same : SameEnd k.0 l.0 k.1 l.1 = settled.takes_once old h k.0 l.0 k.1 l.1 k.2 (taking_goes k.0 r (Takings calls h times k.1 r new) (new ≡ k.1) k.3 kg) l.2 (taking_goes l.0 q (Takings calls h times l.1 q other) (other ≡ l.1) l.3 lg) in
          after_once calls h times steady k.0 k.1 r q new other k.3 kg (moved_taking calls h times k.0 l.0 k.1 l.1 q other same l.3) lg;
      grows = λ old r new k. grows_on calls old k.1 new (settled.taking_grows old h k.0 k.1 k.2) (after_grows calls h times steady k.0 k.1 r new k.3);
      first = λ old r q new other k halts l goes. taking_first calls settled h times steady old k.0 l.0 k.1 l.1 r q new other k.2 k.3 halts l.2 l.3 goes;
    }

steady_all : {C : Type 0} (calls : Calls C) → AreSettled calls → (hosts : List Host) → Steady calls (AllTake calls hosts)
steady_all calls settled [] = steady_nothing calls
steady_all calls settled (h ∷ hosts) = steady_chain calls (Takings calls h 16) (AllTake calls hosts) (steady_takings calls settled h 16) (steady_all calls settled hosts)

steady_quiet : {C : Type 0} (calls : Calls C) → AreSettled calls → Steady calls (Quiet calls)
steady_quiet calls settled = record {
  once = λ old r q new other k kg l lg.
      let same : SameEnd k.0 l.0 new other = settled.rounds_once old k.0 l.0 new other k.1 (goes_calm k.0 (subst GoesOn k.2 kg)) l.1 (goes_calm l.0 (subst GoesOn l.2 lg)) in
      record { answers = k.2 ∙ ap calmly same.answers ∙ sym l.2; carriers = same.carriers };
  grows = λ old r new k. stays calls old new (settled.quiet_round old k.0 new k.1);
  first = λ old r q new other k halts l goes. stays calls new other (settled.quiet_round old l.0 other l.1 ∙ sym (settled.quiet_round old k.0 new k.1));
}

steady_round : {C : Type 0} (calls : Calls C) → AreSettled calls → Steady calls (Round calls)
steady_round {C} calls settled = record {
  once = λ old r q new other k kg l lg. (at old).once old r q new other k kg l lg;
  grows = λ old r new k. (at old).grows old r new k;
  first = λ old r q new other k halts l goes. (at old).first old r q new other k halts l goes;
} where
  at : (old : C) → Steady calls (Chain (Quiet calls) (AllTake calls (calls.seen old).hosts))
  at old = steady_chain calls (Quiet calls) (AllTake calls (calls.seen old).hosts) (steady_quiet calls settled) (steady_all calls settled (calls.seen old).hosts)

steady_rounds : {C : Type 0} (calls : Calls C) → AreSettled calls → (times : ℕ) → Steady calls (Rounds calls times)
steady_rounds calls settled zero = steady_nothing calls
steady_rounds calls settled (suc times) = steady_chain calls (Round calls) (Rounds calls times) (steady_round calls settled) (steady_rounds calls settled times)

-- ---- one event

event_once : {C : Type 0} (calls : Calls C) → AreSettled calls → (old : C) (e : RawEvent) (r q : Result (Unit {0}) CarrierFault) (new other : C)
    → EventGives calls old e r new → GoesOn r → EventGives calls old e q other → GoesOn q → SameEnd r q new other
event_once calls settled old (event.Out m) r q new other h hg k kg = settled.offers_once old m r q new other h hg k kg
event_once calls settled old (event.Take g) r q new other h hg k kg =
    let same : SameEnd h.0 k.0 new other = settled.takes_once old g h.0 k.0 new other h.1 (subst GoesOn h.2 hg) k.1 (subst GoesOn k.2 kg) in
    record { answers = h.2 ∙ ap outcome_of same.answers ∙ sym k.2; carriers = same.carriers }
event_once calls settled old (event.Net n) r q new other h hg k kg = settled.steps_once old n r q new other h hg k kg
event_once calls settled old (event.Calm rounds) r q new other h hg k kg = (steady_rounds calls settled rounds).once old r q new other h hg k kg

happens_once : {C : Type 0} (calls : Calls C) → AreSettled calls → HappensOnce (Happens calls)
happens_once calls settled old e new other shown more h k =
    let same : SameEnd h.outcome k.outcome new other = event_once calls settled old e h.outcome k.outcome new other h.gives h.goes_on k.gives k.goes_on in
    let logs : reverse h.crossings ++ (calls.seen old).log ≡ reverse k.crossings ++ (calls.seen old).log = sym h.grown ∙ ap (λ c. (calls.seen c).log) same.carriers ∙ k.grown in
    let back : reverse h.crossings ≡ reverse k.crossings = append_cancel_right (reverse h.crossings) (reverse k.crossings) (calls.seen old).log logs in
    let crossings : h.crossings ≡ k.crossings = sym (reverse-reverse h.crossings) ∙ ap reverse back ∙ reverse-reverse k.crossings in
    (same.carriers, h.lines ∙ ap₂ (λ cs r. shown_crossings cs ++ shown_refusal r) crossings same.answers ∙ sym k.lines)

-- ---- a replay

-- one carrier is left, and the same lines are shown
pub record OneReplay {C : Type 0} (new other : C) (shown more : List Shown) : Type 0 where
  pub carriers : new ≡ other
  pub lines : shown ≡ more

pub replays_once : {C : Type 0} (calls : Calls C) → AreSettled calls → (old : C) (events : List RawEvent) (new other : C) (shown more : List Shown) → Replays calls old events new shown → Replays calls old events other more → OneReplay new other shown more
replays_once calls settled old events new other shown more h k =
    let one = in_turn_once (Happens calls) (happens_once calls settled) old events new other shown more h k in
    record { carriers = one.0; lines = one.1 }

-- ---- the first part of a replay

-- these lines begin with those
pub record StartsWith (shown part : List Shown) : Type 0 where
  pub rest : List Shown
  pub parts : shown ≡ part ++ rest

-- what crossed before memory ran out in a calm is the first of what the whole calm shows
own_first : (before middle after halted whole more : List Crossing) (shown own : List Shown) (r : Result (Unit {0}) CarrierFault) → middle ≡ reverse halted ++ before → after ≡ reverse whole ++ before → after ≡ more ++ middle
    → own ≡ shown_crossings halted → shown ≡ shown_crossings whole ++ shown_refusal r → StartsWith shown own
own_first before middle after halted whole more shown own r mid end ahead first all =
    let logs : reverse whole ++ before ≡ (more ++ reverse halted) ++ before = sym end ∙ ahead ∙ ap (λ log. more ++ log) mid ∙ sym (append_assoc more (reverse halted) before) in
    let back : reverse whole ≡ more ++ reverse halted = append_cancel_right (reverse whole) (more ++ reverse halted) before logs in
    let turned : whole ≡ halted ++ reverse more =
    sym (reverse-reverse whole) ∙ ap reverse back ∙ reverse-append more (reverse halted) ∙ ap (λ cs. cs ++ reverse more) (reverse-reverse halted) in
    record {
      rest = shown_crossings (reverse more) ++ shown_refusal r;
      parts = all ∙ ap (λ cs. shown_crossings cs ++ shown_refusal r) turned ∙ ap (λ xs. xs ++ shown_refusal r) (shown_crossings-append halted (reverse more))
          ∙ append_assoc (shown_crossings halted) (shown_crossings (reverse more)) (shown_refusal r) ∙ ap (λ xs. xs ++ (shown_crossings (reverse more) ++ shown_refusal r)) (sym first);
    }

nothing_first : (shown own : List Shown) → own ≡ [] → StartsWith shown own
nothing_first shown own none = record { rest = shown; parts = ap (λ xs. xs ++ shown) (sym none) }

stop_first : {C : Type 0} (calls : Calls C) → AreSettled calls → (old : C) (e : RawEvent) (new other : C) (own shown : List Shown) → StopsIn calls old e new own → Happens calls old e other shown → StartsWith shown own
stop_first calls settled old (event.Calm rounds) new other own shown h k = by h.runs_out where
  by : (IsCopied (event.Calm rounds) × (new ≡ old)) ⊎ ((outcome : Result (Unit {0}) CarrierFault) × EventGives calls old (event.Calm rounds) outcome new × Halts outcome) → StartsWith shown own
  by (inl copied) = absurd copied.0
  by (inr stopped) =
      let ahead : Grows calls new other = (steady_rounds calls settled rounds).first old stopped.0 k.outcome new other stopped.1 stopped.2 k.gives k.goes_on in
      own_first (calls.seen old).log (calls.seen new).log (calls.seen other).log h.crossings k.crossings ahead.crossings shown own k.outcome h.grown k.grown ahead.grown h.lines k.lines
stop_first calls settled old e new other own shown h k = nothing_first shown own (h.no_lines tt)

pub first_part : {C : Type 0} (calls : Calls C) → AreSettled calls → (old : C) (events : List RawEvent) (new last : C) (part whole : List Shown) → EndsIn calls StopsIn old events new part → Replays calls old events last whole → StartsWith whole part
first_part calls settled old events new last part whole h k =
    let front = ends_front (Happens calls) (StopsIn calls) (happens_once calls settled)
    (λ from e stopped other own shown stops happens. let starts = stop_first calls settled from e stopped other own shown stops happens in (starts.rest, starts.parts)) old events new last part whole h k in
    record { rest = front.0; parts = front.1 }
