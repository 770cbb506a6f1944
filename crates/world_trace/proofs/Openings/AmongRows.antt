-- Rows of traces among strangers.
use Rattle.world_trace.proofs.Common.{◌≡◌, ◌⊎◌, inl, inr, ℕ, List, [], ◌∷◌, ◌++◌, Result, codes, ap, ap₂, ◌∙◌, Calls, Seen, AllParts, Spot, WorldState, beside_third, Event, WorldFault, TopologyFields, WorldEvent}
use Rattle.std.specs.Fmt.{digits}
use Rattle.net_sim.specs.Steps.{StepGives}
use Rattle.world_script.specs.declared.event.WorldEvent.TheVariants as script
use Rattle.world_trace.specs.MixedTraces.{AfterMixedOpening, AllTell, MayTellMixed, MixedTraceFails, StopsMixed, TellsMixedAt}
use Rattle.world_trace.specs.Texts.{opening_text}
use Rattle.world_trace.specs.Traces.{state_of}
use Rattle.world_trace.specs.Worked.{PrintsSpot}

pub row_opened : (members : Seen → AllParts) (t : TopologyFields) (lines : List (List ℕ))
    → AfterMixedOpening members t beside_third (λ others. others ≡ []) lines
    → lines ≡ opening_text t (state_of members beside_third ++ codes "\"foreign\":[\"0/3\"]" ∷ []) ∷ []
unfolding digits
row_opened members t lines (others, is, none) =
    is ∙ ap (λ (ls : List (List ℕ)). opening_text t (state_of members beside_third ++ codes "\"foreign\":[\"0/3\"]" ∷ []) ∷ ls) none

pub row_counted : (old e new : ℕ) (lines : List (List ℕ)) → AllTell PrintsSpot old ((7, e) ∷ (9, e) ∷ []) new lines
    → lines ≡ (7 ∷ 1 ∷ []) ∷ (9 ∷ 2 ∷ []) ∷ []
row_counted old e new lines (mid, first, rest, goes, (later, second, others, more, (same, none), also), all) =
    let both : List (List ℕ) → List (List ℕ) → List (List ℕ) = λ xs ys. xs ++ ys in
    all ∙ ap₂ both goes (also ∙ ap₂ both more none)

none_done : (done left : List (Spot × WorldEvent)) (last : Spot × WorldEvent) → [] ≡ done ++ last ∷ left → ⊥
none_done [] left last e = absurd (cc)
none_done (x ∷ done) left last e = absurd (cc)

module _ {C : Type 0} (calls : Calls C) where
  pub row_calm : (members : C → AllParts) (spot : Spot) (old new : WorldState C) (rounds : ℕ) (lines : List (List ℕ))
      → TellsMixedAt calls members spot old (script.Calm rounds) new lines → new.strangers ≡ old.strangers
  row_calm members spot old new rounds lines h = h.1

  pub row_memory : (old new : WorldState C) (e : Event) (lines : List (List ℕ)) → StopsMixed calls old e new lines
      → (lines ≡ []) × ((new ≡ old) ⊎ ((r : Result (Unit {0}) WorldFault) × StepGives calls old e r new))
  row_memory old new e lines (inl h) = (h.0, inl h.1)
  row_memory old new e lines (inr h) = (h.0, inr h.1)

  pub row_failed : (old new : WorldState C) (e : Event) (lines : List (List ℕ)) → MayTellMixed calls old e new lines
      → (lines ≡ []) × ((r : Result (Unit {0}) WorldFault) × StepGives calls old e r new)
  row_failed old new e lines h = h

  pub row_nothing : (members : C → AllParts) (old new : WorldState C) → MixedTraceFails calls members old [] new → ⊥
  row_nothing members old new (others, ends) = none_done ends.done ends.left ends.last ends.parts
