-- A round whose events have lines passes as in a replay.
use Rattle.world_trace.proofs.Common.{inl, inr, ℕ, List, [], Calls, WorldState, Spot, TellsInCalm, TellsRound, AllParts}
use Rattle.world_replay.specs.Replay.{HappensInCalm, Happens}
use Rattle.world_replay.proofs.lemmas.Accounts.{AreParts, ShowsAs, round_as}
use Rattle.world_replay.proofs.lemmas.{round_calm}
use Rattle.world_replay.specs.Output.{Shown}
use Rattle.world_script.specs.declared.event.WorldEvent.TheVariants as world

-- whatever is shown
abbrev Any : List (List ℕ) → List Shown → Type 0
Any lines shown = Unit {0}

module _ {C : Type 0} (calls : Calls C) (members : C → AllParts) (spot : Spot) (round : ℕ) where
  step_passes : ShowsAs (TellsInCalm calls members spot round) (HappensInCalm calls) Any
  step_passes old e new lines (inl (happens, same, none)) = ([], happens, tt)
  step_passes old e new lines (inr ((shown, happens, is), heard)) = (shown, happens, tt)

  pub round_passes : (old new : WorldState C) (lines : List (List ℕ)) → TellsRound calls members spot old round new lines → (shown : List Shown) × Happens calls old (world.Calm 1) new shown
  round_passes old new lines h =
      let parts : AreParts Any = record { none = tt; more = λ first rest begin later a b. tt } in
      let (shown, passes, any) = round_as (TellsInCalm calls members spot round) (HappensInCalm calls) Any parts step_passes old new lines h in
      (shown, round_calm calls old new shown passes)
