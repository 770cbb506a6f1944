-- What every event of a world keeps, every list of events and every number of quiet rounds keeps.
use Rattle.net_sim.proofs.Common.{◌≡◌, ℕ, Bool, true, false, zero, suc, List, [], ◌∷◌, length, nat_lt, sym, subst, MatchBool, Host, Each, WorldState, WorldFault, Carrier, Quiet, Offer, Refuses, Does, StepGives, TurnGives, stops, Runs, RunGives, Repeats, TurnsOf, up_in, Calms, CalmGives, Calls}
use Rattle.std.proofs.Common.{Result}
use Rattle.interface.specs.declared.carrier.CarrierFault.TheVariants as fault
use Rattle.net_sim.specs.World.{Event, Take}

-- where nothing is asked of them
pub all_named : (events : List Event) → Each (λ e. Unit {0}) events
all_named [] = tt
all_named (e ∷ events) = (tt, all_named events)

module _ {C : Type 0} (P : WorldState C → Type 0) where
  if_stopped : (Rest : Type 0) (old : WorldState C) (r : Result (Unit {0}) WorldFault) (new : WorldState C) → P old → (Rest → P new) → (b : Bool)
      → MatchBool b (Refuses (Carrier fault.Stopped) old r new) Rest → P new
  if_stopped Rest old r new b k true h = subst P (sym h.1) b
  if_stopped Rest old r new b k false h = k h

  goes_on : (Rest : Type 0) (answer : Result (Unit {0}) WorldFault) (mid : WorldState C) (r : Result (Unit {0}) WorldFault) (new : WorldState C) → P mid → (Rest → P new)
      → (b : Bool) → MatchBool b ((r ≡ answer) × (new ≡ mid)) Rest → P new
  goes_on Rest answer mid r new b k true h = subst P (sym h.1) b
  goes_on Rest answer mid r new b k false h = k h

-- `Named` is what is asked of each event
module _ {C : Type 0} (calls : Calls C) (P : WorldState C → Type 0) (Named : Event → Type 0)
    (step : (e : Event) (old : WorldState C) (r : Result (Unit {0}) WorldFault) (new : WorldState C) → Named e → P old → StepGives calls old e r new → P new) where
  runs_keep : (events : List Event) (old : WorldState C) (r : Result (Unit {0}) WorldFault) (new : WorldState C) → Each Named events → P old → Runs calls old events r new → P new
  runs_keep [] old r new n b h = subst P (sym h.1) b
  runs_keep (e ∷ events) old r new n b h =
      let m : P h.1 = step e old h.0 h.1 n.0 b h.2 in goes_on P (Runs calls h.1 events r new) h.0 h.1 r new m (runs_keep events h.1 r new n.1 m) (stops h.0) h.3

  pub run_keeps : (events : List Event) (old : WorldState C) (r : Result (Unit {0}) WorldFault) (new : WorldState C) → Each Named events → P old → RunGives calls old events r new → P new
  run_keeps events old r new n b h = if_stopped P (Runs calls old events r new) old r new b (runs_keep events old r new n b) old.stopped h

-- rounds, takings and offers always have it
module _ {C : Type 0} (calls : Calls C) (P : WorldState C → Type 0) (Named : Event → Type 0) (quiet : Named Quiet) (take : (h : Host) → Named (Take h)) (offer : (h : Host) → Named (Offer h))
    (step : (e : Event) (old : WorldState C) (r : Result (Unit {0}) WorldFault) (new : WorldState C) → Named e → P old → TurnGives calls old e r new → P new) where
  goes_again : (Rest : Type 0) (mid : WorldState C) (r : Result (Unit {0}) WorldFault) (new : WorldState C) → P mid → (Rest → P new)
      → (b : Bool) → MatchBool b Rest (Does mid r new) → P new
  goes_again Rest mid r new b k true h = k h
  goes_again Rest mid r new b k false h = subst P (sym h.1) b

  repeats_keep : (e : Event) (times : ℕ) (old : WorldState C) (r : Result (Unit {0}) WorldFault) (new : WorldState C) → Named e → P old → Repeats calls e times old r new → P new
  repeats_keep e zero old r new n b h = subst P (sym h.1) b
  repeats_keep e (suc times) old r new n b h =
      let m : P h.1 = step e old h.0 h.1 n b h.2 in
      let Again : Type 0 = MatchBool (nat_lt (length old.kept.book.crossings) (length h.1.kept.book.crossings)) (Repeats calls e times h.1 r new) (Does h.1 r new) in
      goes_on P Again h.0 h.1 r new m
      (λ g. goes_again (Repeats calls e times h.1 r new) h.1 r new m (repeats_keep e times h.1 r new n m) (nat_lt (length old.kept.book.crossings) (length h.1.kept.book.crossings)) g) (stops h.0) h.3

  turns_keep : (hosts : List Host) (old : WorldState C) (r : Result (Unit {0}) WorldFault) (new : WorldState C) → P old → TurnsOf calls hosts old r new → P new
  turns_keep [] old r new b h = subst P (sym h.1) b
  turns_keep (x ∷ hosts) old r new b h =
      let m : P h.1 = repeats_keep (Take x) 16 old h.0 h.1 (take x) b h.2 in
      let Sends : Type 0 = (second : Result (Unit {0}) WorldFault) × (sent : WorldState C) × Repeats calls (Offer x) 32 h.1 second sent
      × MatchBool (stops second) ((r ≡ second) × (new ≡ sent)) (TurnsOf calls hosts sent r new) in
      goes_on P Sends h.0 h.1 r new m
      (λ g. (let n : P g.1 = repeats_keep (Offer x) 32 h.1 g.0 g.1 (offer x) m g.2 in
      goes_on P (TurnsOf calls hosts g.1 r new) g.0 g.1 r new n (turns_keep hosts g.1 r new n) (stops g.0) g.3)) (stops h.0) h.3

  calms_keep : (times : ℕ) (old : WorldState C) (r : Result (Unit {0}) WorldFault) (new : WorldState C) → P old → Calms calls times old r new → P new
  calms_keep zero old r new b h = subst P (sym h.1) b
  calms_keep (suc times) old r new b h =
      let m : P h.1 = step Quiet old h.0 h.1 quiet b h.2 in
      let Turns : Type 0 = (second : Result (Unit {0}) WorldFault) × (turned : WorldState C) × TurnsOf calls (up_in h.1.seats) h.1 second turned
      × MatchBool (stops second) ((r ≡ second) × (new ≡ turned)) (Calms calls times turned r new) in
      goes_on P Turns h.0 h.1 r new m
      (λ g. (let n : P g.1 = turns_keep (up_in h.1.seats) h.1 g.0 g.1 m g.2 in
      goes_on P (Calms calls times g.1 r new) g.0 g.1 r new n (calms_keep times g.1 r new n) (stops g.0) g.3)) (stops h.0) h.3

  pub calm_keeps : (times : ℕ) (old : WorldState C) (r : Result (Unit {0}) WorldFault) (new : WorldState C) → P old → CalmGives calls times old r new → P new
  calm_keeps times old r new b h = if_stopped P (Calms calls times old r new) old r new b (calms_keep times old r new b) old.stopped h
