-- No event changes who the strangers are.
use Rattle.net_sim.proofs.Common.{◌≡◌, ℕ, List, refl, ◌∙◌, Calls, WorldState, RunGives, StepGives, TurnGives, CalmGives}
use Rattle.net_sim.specs.World.{Event}
use Rattle.net_sim.proofs.Books.Always.{all_named, calm_keeps, run_keeps}
use Rattle.net_sim.proofs.Books.EachEvent.{Answered, Ways, turn_way, unshown}
use Rattle.net_sim.proofs.Books.Strangers.{each_way}

module _ {C : Type 0} (calls : Calls C) where
  abbrev Same : WorldState C → Answered → WorldState C → Type 0
  Same old r new = new.strangers ≡ old.strangers

  same_ways : Ways calls (λ c d cs. Unit {0}) Same
  same_ways = record {
    left = λ r w own. refl;
    halted = λ c cs old r new running crossed one h. h.strangers;
    passed = λ e c old running crossed. refl;
    quiet = λ c old running crossed. refl;
    sent = λ c h s m old running has next crossed. refl;
    took = λ c h s i old running has crossed. refl;
    turned = λ c e old running crossed. refl;
    served = λ h q s old running has free. refl;
    server = λ h listen base s old running has. refl;
    user = λ h peer listen own s old running has. refl;
  }

  pub turn_same : (e : Event) (old : WorldState C) (r : Answered) (new : WorldState C) → TurnGives calls old e r new → new.strangers ≡ old.strangers
  turn_same e old r new h = turn_way calls (λ c d cs. Unit {0}) (unshown calls) Same same_ways e (λ sent w. refl) old r new h

  pub step_same : (e : Event) (old : WorldState C) (r : Answered) (new : WorldState C) → StepGives calls old e r new → new.strangers ≡ old.strangers
  step_same e old r new h = each_way calls (λ c d cs. Unit {0}) (unshown calls) Same same_ways (λ c x w on crossed. refl) (λ f w of. refl) e old r new h

  pub calm_same : (times : ℕ) (old : WorldState C) (r : Answered) (new : WorldState C) → CalmGives calls times old r new → new.strangers ≡ old.strangers
  calm_same times old r new h =
      calm_keeps calls (λ (w : WorldState C). w.strangers ≡ old.strangers) (λ e. Unit {0}) tt (λ g. tt) (λ g. tt)
      (λ e w q v named is g. turn_same e w q v g ∙ is) times old r new refl h

  pub run_same : (events : List Event) (old : WorldState C) (r : Answered) (new : WorldState C) → RunGives calls old events r new → new.strangers ≡ old.strangers
  run_same events old r new h =
      run_keeps calls (λ (w : WorldState C). w.strangers ≡ old.strangers) (λ e. Unit {0})
      (λ e w q v named is g. step_same e w q v g ∙ is) events old r new (all_named events) refl h
