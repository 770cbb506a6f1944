-- A carrier whose calls leave no choice leaves none to a replay over it, and strangers leave none either.
use Rattle.world_replay.proofs.Common.{◌≡◌, Bool, true, false, List, ◌++◌, Result, Ok, Err, ap, sym, ◌∙◌, refl, false≢true, MatchBool, Calls, WorldState, stops, CalmGives, Refuses, Event, Take, Out, WorldFault, Carrier, NoProgram, shown, WorldEvent, Gains, gained, HappensOnce, ShowsFront, in_turn_once}
use Rattle.replay.proofs.lemmas.{ends_front}
use Rattle.replay.specs.Settled.{AreSettled}
use Rattle.net_sim.specs.Steps.{AmongGives, FetchGives, OutGives, StepGives, asked_at, is_strange, strange_in}
use Rattle.net_sim.specs.World as world
use Rattle.net_sim.proofs.lemmas.{step_stands}
use Rattle.world_replay.specs.Output.{shown_refusal, Shown}
use Rattle.world_replay.specs.Replay.{EndsIn, EventGives, Happens, HappensInCalm, Replays, StopsIn}
use Rattle.interface.specs.declared.carrier.CarrierFault.TheVariants as fault
use Rattle.std.proofs.lemmas.List.{append_assoc}
use Rattle.world_script.specs.declared.event.WorldEvent.TheVariants as script
use Rattle.world_replay.proofs.Grown.{Grew, gains_none, grew_more}
use Rattle.world_replay.proofs.Replays.{SameGains, gained_more, gains_once, same_news, shown_settled}
use Rattle.world_replay.proofs.Steady.{Steady, event_once, fetch_once, out_once, steady_calm, turn_once}

-- ---- what goes one way, running out of memory aside

abbrev Answer : Type 0
Answer = Result (Unit {0}) WorldFault

abbrev GoesOnce : {S : Type 0} → (Answer → S → Type 0) → Type 0
GoesOnce {S} P = (r q : Answer) (new other : S) → P r new → stops r ≡ false → P q other → stops q ≡ false → (r ≡ q) × (new ≡ other)

once_either : {S : Type 0} (b : Bool) (P Q : Answer → S → Type 0) → GoesOnce P → GoesOnce Q → GoesOnce (λ r new. MatchBool b (P r new) (Q r new))
once_either true P Q p q = p
once_either false P Q p q = q

-- ---- one event

module _ {C : Type 0} (calls : Calls C) (settled : AreSettled calls) where
  refused_once : (f : WorldFault) (old : WorldState C) → GoesOnce (Refuses f old)
  refused_once f old = λ r q new other h hg k kg. (h.0 ∙ sym k.0, h.1 ∙ sym k.1)

  else_once : (e : Event) (old : WorldState C) → GoesOnce (world.EventGives calls old e)
  else_once e old = λ r q new other h hg k kg. event_once calls settled e old r q new other h hg k kg

  among_once : (e : Event) (old : WorldState C) → GoesOnce (AmongGives calls old e)
  among_once (Take g) old =
      once_either (strange_in old g) (FetchGives calls g old) (world.EventGives calls old (Take g))
      (λ r q new other h hg k kg. fetch_once calls settled g old r q new other h hg k kg) (else_once (Take g) old)
  among_once (Out m) old =
      once_either (strange_in old m.flow.source) (OutGives calls m old) (world.EventGives calls old (Out m))
      (λ r q new other h hg k kg. out_once calls settled m old r q new other h hg k kg) (else_once (Out m) old)
  among_once e old =
      once_either (is_strange (strange_in old) (asked_at e)) (Refuses NoProgram old) (world.EventGives calls old e)
      (refused_once NoProgram old) (else_once e old)

  step_once : (e : Event) (old : WorldState C) → GoesOnce (StepGives calls old e)
  step_once e old =
      once_either old.stopped (Refuses (Carrier fault.Stopped) old) (AmongGives calls old e)
      (refused_once (Carrier fault.Stopped) old) (among_once e old)

  -- where memory runs out, the book is unchanged
  step_kept : (e : Event) (old : WorldState C) (r : Answer) (new : WorldState C) → StepGives calls old e r new → stops r ≡ true → new.kept ≡ old.kept
  step_kept e old (Ok done) new h halts = absurd (false≢true halts)
  step_kept e old (Err f) new h halts = step_stands calls f old (Err f) new refl e h

  script_once : (e : WorldEvent) (old : WorldState C) (r q : Answer) (new other : WorldState C)
      → EventGives calls old e r new → stops r ≡ false → EventGives calls old e q other
      → stops q ≡ false → (r ≡ q) × (new ≡ other)
  script_once (script.Happen e) old r q new other h hg k kg = step_once e old r q new other h hg k kg
  script_once (script.Calm rounds) old r q new other h hg k kg =
      (steady_calm calls settled rounds old).once r q new other h hg k kg

  -- ---- what it shows

  pub happens_once : HappensOnce (Happens calls)
  happens_once old e new other shown more h k =
      let one : (h.outcome ≡ k.outcome) × (new ≡ other) =
      script_once e old h.outcome k.outcome new other h.gives h.goes_on k.gives k.goes_on in
      let same : SameGains h.gains k.gains =
      gains_once old.kept new.kept other.kept h.gains k.gains
      (ap (λ (w : WorldState C). w.kept) one.1) in
      let news : gained h.gains ≡ gained k.gains =
      same_news old.kept new.kept other.kept h.gains k.gains same in (
        one.1,
        h.lines ∙ ap (λ (xs : List Shown). xs ++ shown_refusal h.outcome) news
            ∙ ap (λ (r : Answer). gained k.gains ++ shown_refusal r) one.0 ∙ sym k.lines,
      )

  -- an event of a calm
  pub in_calm_once : HappensOnce (HappensInCalm calls)
  in_calm_once old e new other shown more h k =
      let one : (h.outcome ≡ k.outcome) × (new ≡ other) =
      turn_once calls settled e old h.outcome k.outcome new other h.gives h.goes_on k.gives k.goes_on in
      let same : SameGains h.gains k.gains = gains_once old.kept new.kept other.kept h.gains k.gains (ap (λ (w : WorldState C). w.kept) one.1) in
      (one.1, h.lines ∙ same_news old.kept new.kept other.kept h.gains k.gains same ∙ sym k.lines)

  -- where memory ran out, what is shown is the first part of what is shown where it doesn't
  stops_front : ShowsFront (StopsIn calls) (Happens calls)
  stops_front old (script.Happen e) new other part whole h k =
      let none : Gains old.kept old.kept = gains_none old.kept in
      let stood : SameGains h.gains none =
      gains_once old.kept new.kept old.kept h.gains none
      (step_kept e old h.outcome new h.gives h.stops) in (
        whole,
        ap (λ (xs : List Shown). xs ++ whole)
            (sym (h.lines ∙ same_news old.kept new.kept old.kept h.gains none stood)),
      )
  stops_front old (script.Calm rounds) new other part whole h k =
      let way : Steady old.kept (CalmGives calls rounds old) = steady_calm calls settled rounds old in
      let mine : Grew old.kept new.kept = way.grows h.outcome new h.gives in
      let later : Grew new.kept other.kept =
      way.first h.outcome k.outcome new other h.gives h.stops k.gives k.goes_on in
      let all : Grew old.kept other.kept =
      grew_more old.kept new.kept other.kept mine later in
      let part_is : part ≡ gained mine.gains =
      h.lines ∙ same_news old.kept new.kept new.kept h.gains mine.gains
      (gains_once old.kept new.kept new.kept h.gains mine.gains refl) in
      let all_is : gained k.gains ≡ gained all.gains =
      same_news old.kept other.kept other.kept k.gains all.gains
      (gains_once old.kept other.kept other.kept k.gains all.gains refl) in (
        gained later.gains ++ shown_refusal k.outcome,
        k.lines ∙ ap (λ (xs : List Shown). xs ++ shown_refusal k.outcome) all_is
            ∙ ap (λ (xs : List Shown). xs ++ shown_refusal k.outcome)
            (gained_more old.kept new.kept other.kept mine later)
            ∙ append_assoc (gained mine.gains) (gained later.gains) (shown_refusal k.outcome)
            ∙ ap (λ (xs : List Shown). xs ++ (gained later.gains ++ shown_refusal k.outcome)) (sym part_is),
      )

-- ---- events in turn

pub one_replay : {C : Type 0} (own : Calls C) → AreSettled own → (old new other : WorldState C)
    (events : List WorldEvent) (lines more : List Shown)
    → Replays (shown own) old events new lines → Replays (shown own) old events other more → (new ≡ other) × (lines ≡ more)
one_replay own s old new other events lines more h k = in_turn_once (Happens (shown own)) (happens_once (shown own) (shown_settled own s)) old events new other lines more h k

pub first_part : {C : Type 0} (own : Calls C) → AreSettled own → (old new other : WorldState C)
    (events : List WorldEvent) (part whole : List Shown)
    → EndsIn (shown own) (StopsIn (shown own)) old events new part → Replays (shown own) old events other whole
    → (rest : List Shown) × (whole ≡ part ++ rest)
first_part own s old new other events part whole h k =
    ends_front (Happens (shown own)) (StopsIn (shown own))
    (happens_once (shown own) (shown_settled own s)) (stops_front (shown own) (shown_settled own s))
    old events new other part whole h k
