-- A refusal, and running out of memory, leave what is kept as it was. No world without strangers answers as only one with strangers does, but
-- to what only a stranger sends.
use Rattle.net_sim.proofs.Common.{◌≡◌, ℕ, zero, suc, Bool, true, false, List, [], ◌∷◌, Ok, Err, ap, refl, sym, ◌∙◌, MatchBool, Calls, WorldState, WorldFault, Carrier, Program, Refuses, StepGives, TurnGives, stops, wants_memory, Runs, RunGives, TurnsOf, up_in, Calms, CalmGives}
use Rattle.interface.specs.declared.carrier.CarrierFault.TheVariants as fault
use Rattle.net_sim.specs.World.{Event, HasProgram, NoProgram, is_of_strangers, is_sent}
use Rattle.net_sim.proofs.Books.EachEvent.{Answered, Ways, turn_way, unshown}
use Rattle.net_sim.proofs.Books.Strangers.{alone, each_way}

module _ {C : Type 0} (calls : Calls C) (f : WorldFault) where
  abbrev Stands : WorldState C → Answered → WorldState C → Type 0
  Stands old r new = r ≡ Err f → new.kept ≡ old.kept

  -- what is done is not refused
  not_done : (r : Answered) → r ≡ Ok tt → r ≡ Err f → ⊥
  not_done r done is = let both : Ok tt ≡ Err f = sym done ∙ is in cc

  stands_ways : Ways calls (λ c d cs. Unit {0}) Stands
  stands_ways = record {
    left = λ r w own is. refl;
    halted = λ c cs old r new running crossed one h is. h.kept;
    passed = λ e c old running crossed is. refl;
    quiet = λ c old running crossed is. absurd (not_done (Ok tt) refl is);
    sent = λ c h s m old running has next crossed is. absurd (not_done (Ok tt) refl is);
    took = λ c h s i old running has crossed is. absurd (not_done (Ok tt) refl is);
    turned = λ c e old running crossed is. absurd (not_done (Ok tt) refl is);
    served = λ h q s old running has free is. absurd (not_done (Ok tt) refl is);
    server = λ h listen base s old running has is. absurd (not_done (Ok tt) refl is);
    user = λ h peer listen own s old running has is. absurd (not_done (Ok tt) refl is);
  }

  pub turn_stands : (old : WorldState C) (r : Answered) (new : WorldState C) → r ≡ Err f → (e : Event) → TurnGives calls old e r new → new.kept ≡ old.kept
  turn_stands old r new is e h = turn_way calls (λ c d cs. Unit {0}) (unshown calls) Stands stands_ways e (λ sent w is. refl) old r new h is

  pub step_stands : (old : WorldState C) (r : Answered) (new : WorldState C) → r ≡ Err f → (e : Event) → StepGives calls old e r new → new.kept ≡ old.kept
  step_stands old r new is e h =
      each_way calls (λ c d cs. Unit {0}) (unshown calls) Stands stands_ways (λ c x w on crossed is. absurd (not_done (Ok tt) refl is)) (λ g w of is. refl)
      e old r new h is

-- ---- what only a world with strangers answers

abbrev Own : Answered → Type 0
Own r = is_of_strangers r ≡ false

memory_own : (f : WorldFault) → wants_memory f ≡ true → Own (Err f)
memory_own (Carrier f) is = refl
memory_own (Program f) is = refl
memory_own NoProgram is = absurd (let no : false ≡ true = is in cc)
memory_own HasProgram is = absurd (let no : false ≡ true = is in cc)

-- nor does an answer that ends a list of events
stops_own : (r : Answered) → stops r ≡ true → Own r
stops_own (Ok done) is = refl
stops_own (Err (Carrier f)) is = refl
stops_own (Err (Program f)) is = refl
stops_own (Err NoProgram) is = absurd (let no : false ≡ true = is in cc)
stops_own (Err HasProgram) is = absurd (let no : false ≡ true = is in cc)

either_own : (P Q : Type 0) (r : Answered) (b : Bool) → (b ≡ true → P → Own r) → (Q → Own r) → MatchBool b P Q → Own r
either_own P Q r true k l h = k refl h
either_own P Q r false k l h = l h

module _ {C : Type 0} (calls : Calls C) where
  own_ways : Ways calls (λ c d cs. Unit {0}) (λ old r new. Own r)
  own_ways = record {
    left = λ r w own. own;
    halted = λ c cs old r new running crossed one h. ap is_of_strangers h.answer ∙ memory_own h.fault h.memory;
    passed = λ e c old running crossed. refl;
    quiet = λ c old running crossed. refl;
    sent = λ c h s m old running has next crossed. refl;
    took = λ c h s i old running has crossed. refl;
    turned = λ c e old running crossed. refl;
    served = λ h q s old running has free. refl;
    server = λ h listen base s old running has. refl;
    user = λ h peer listen own s old running has. refl;
  }

  pub turn_own : (e : Event) (old : WorldState C) (r : Answered) (new : WorldState C) → is_sent e ≡ false → TurnGives calls old e r new → Own r
  turn_own e old r new other h =
      turn_way calls (λ c d cs. Unit {0}) (unshown calls) (λ old r new. Own r) own_ways e
      (λ sent w. absurd (let no : false ≡ true = sym other ∙ sent in cc)) old r new h

  pub step_own : (e : Event) (old : WorldState C) (r : Answered) (new : WorldState C) → old.strangers ≡ [] → is_sent e ≡ false → StepGives calls old e r new → Own r
  step_own e old r new none other h = turn_own e old r new other (alone calls old r new none e h)

  -- after an answer that may end all of them
  goes_on : (Rest : Type 0) (answer r : Answered) (mid new : WorldState C) → (Rest → Own r)
      → MatchBool (stops answer) ((r ≡ answer) × (new ≡ mid)) Rest → Own r
  goes_on Rest answer r mid new k h =
      either_own ((r ≡ answer) × (new ≡ mid)) Rest r (stops answer) (λ ends is. ap is_of_strangers is.0 ∙ stops_own answer ends) k h

  unless_stopped : (Rest : Type 0) (old : WorldState C) (r : Answered) (new : WorldState C) → (Rest → Own r)
      → MatchBool old.stopped (Refuses (Carrier fault.Stopped) old r new) Rest → Own r
  unless_stopped Rest old r new k h = either_own (Refuses (Carrier fault.Stopped) old r new) Rest r old.stopped (λ on no. ap is_of_strangers no.0) k h

  runs_own : (events : List Event) (old : WorldState C) (r : Answered) (new : WorldState C) → Runs calls old events r new → Own r
  runs_own [] old r new h = ap is_of_strangers h.0
  runs_own (e ∷ events) old r new h =
      goes_on (Runs calls h.1 events r new) h.0 r h.1 new (λ rest. runs_own events h.1 r new rest) h.3

  pub run_own : (events : List Event) (old : WorldState C) (r : Answered) (new : WorldState C) → RunGives calls old events r new → Own r
  run_own events old r new h = unless_stopped (Runs calls old events r new) old r new (λ runs. runs_own events old r new runs) h

  calms_own : (times : ℕ) (old : WorldState C) (r : Answered) (new : WorldState C) → Calms calls times old r new → Own r
  calms_own zero old r new h = ap is_of_strangers h.0
  calms_own (suc times) old r new h =
      let Turns : Type 0 = (second : Answered) × (turned : WorldState C) × TurnsOf calls (up_in h.1.seats) h.1 second turned
      × MatchBool (stops second) ((r ≡ second) × (new ≡ turned)) (Calms calls times turned r new) in
      goes_on Turns h.0 r h.1 new
      (λ g. goes_on (Calms calls times g.1 r new) g.0 r g.1 new (λ rest. calms_own times g.1 r new rest) g.3) h.3

  pub calm_own : (times : ℕ) (old : WorldState C) (r : Answered) (new : WorldState C) → CalmGives calls times old r new → Own r
  calm_own times old r new h = unless_stopped (Calms calls times old r new) old r new (λ calms. calms_own times old r new calms) h
