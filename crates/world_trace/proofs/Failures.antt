-- What happened where a write failed.
use Rattle.world_trace.proofs.Common.{◌≡◌, ℕ, List, [], ◌∷◌, ◌++◌, ap, arith, length, length-append, Calls, WorldState, Event, Spot, AllParts}
use Rattle.world_trace.specs.Traces.{MayTell, EndsAt}
use Rattle.world_script.specs.declared.event.WorldEvent.TheVariants as world

pub row_nothing : {C : Type 0} (calls : Calls C) (members : C → AllParts) (spot : Spot) (old new : WorldState C) (lines : List (List ℕ)) → EndsAt calls members (MayTell calls) spot old (world.Calm 0) new lines → ⊥
row_nothing calls members spot old new lines h =
    let none : 0 ≡ length (h.done ++ h.last ∷ h.left) = ap length h.parts in
    absurd (omega (arith, none, length-append h.done (h.last ∷ h.left)))

pub row_no_line : {C : Type 0} (calls : Calls C) (old new : WorldState C) (e : Event) (line : List ℕ) → MayTell calls old e new (line ∷ []) → ⊥
row_no_line calls old new e line (none, m) = absurd (cc)
