-- A run, event by event, where each event is taken out of the list.
use Rattle.net_sim.proofs.Common.{◌≡◌, Bool, true, false, List, ◌∷◌, refl, sym, subst, MatchBool, WorldState, WorldFault, Carrier, Refuses, StepGives, Runs, RunGives, stops, Calls}
use Rattle.std.proofs.Common.{Result}
use Rattle.net_sim.specs.World.{Event}
use Rattle.interface.specs.declared.carrier.CarrierFault.TheVariants as fault

module _ {C : Type 0} (calls : Calls C) (left later : List Event) (e : Event) (is : left ≡ e ∷ later)
    (old mid : WorldState C) (answer : Result (Unit {0}) WorldFault) (step : StepGives calls old e answer mid) where
  abbrev Ends : Bool → Result (Unit {0}) WorldFault → WorldState C → Type 0
  Ends b r new = MatchBool b ((r ≡ answer) × (new ≡ mid)) (Runs calls mid later r new)

  pub run_more : stops answer ≡ false → (r : Result (Unit {0}) WorldFault) (new : WorldState C)
      → Runs calls mid later r new → Runs calls old left r new
  run_more on r new rest =
      let now : Ends (stops answer) r new = subst (λ (b : Bool). Ends b r new) (sym on) rest in
      subst (λ (es : List Event). Runs calls old es r new) (sym is) (answer, mid, step, now)

  pub run_ends : stops answer ≡ true → Runs calls old left answer mid
  run_ends off =
      let now : Ends (stops answer) answer mid = subst (λ (b : Bool). Ends b answer mid) (sym off) (refl, refl) in
      subst (λ (es : List Event). Runs calls old es answer mid) (sym is) (answer, mid, step, now)

pub runs_on : {C : Type 0} (calls : Calls C) (events : List Event) (old : WorldState C)
    (r : Result (Unit {0}) WorldFault) (new : WorldState C) → old.stopped ≡ false
    → Runs calls old events r new → RunGives calls old events r new
runs_on {C} calls events old r new running runs =
    let Gives : Bool → Type 0 = λ b.
    MatchBool b (Refuses (Carrier fault.Stopped) old r new) (Runs calls old events r new) in
    subst Gives (sym running) runs
