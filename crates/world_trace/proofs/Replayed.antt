-- The world after a trace is one that the replay of its script comes to.
use Rattle.world_trace.proofs.Common.{length-append, Calls, WorldState, opening_world, InTurn, numbered_from, Spot, WorldEvent, AllParts}
use Rattle.std.proofs.Common.{◌≡◌, ℕ, zero, suc, ◌+◌, List, [], ◌∷◌, ◌++◌, length, map, refl, subst, arith}
use Rattle.world_trace.specs.Traces.{TellsRound, TracesWorld, first_rounds, TellsAt, TellsIn}
use Rattle.world_replay.specs.Output.{Shown}
use Rattle.world_replay.specs.Replay.{Happens, Replays, rounds_of}
use Rattle.world_replay.proofs.lemmas.CalmRounds.{rounds_calm}
use Rattle.world_script.specs.declared.event.WorldEvent.TheVariants as world
use Rattle.world_trace.proofs.Rounds.Passing.{round_passes}
use Rattle.world_trace.proofs.Unspent.Worlds.{Runs, happens_runs, opening_lasts}

rounds_counted : (rounds : ℕ) → length (first_rounds rounds) ≡ rounds
rounds_counted zero = refl
rounds_counted (suc rounds) =
    let before : length (first_rounds rounds) ≡ rounds = rounds_counted rounds in
    let one : length (first_rounds rounds ++ suc rounds ∷ []) ≡ length (first_rounds rounds) + 1 = length-append (first_rounds rounds) (suc rounds ∷ []) in
    omega (arith, before, one)

module _ {C : Type 0} (calls : Calls C) (members : C → AllParts) where
  -- what events of a script show, one after another
  abbrev Replayed : WorldState C → List WorldEvent → WorldState C → Type 0
  Replayed old events new = (printed : List Shown) × Replays calls old events new printed

  abbrev Happened : WorldState C → WorldEvent → WorldState C → Type 0
  Happened old e new = (printed : List Shown) × Happens calls old e new printed

  rounds_replayed : (spot : Spot) (rounds : List ℕ) (old new : WorldState C) (lines : List (List ℕ)) → InTurn (TellsRound calls members spot) old rounds new lines → Replayed old (rounds_of (length rounds)) new
  rounds_replayed spot [] old new lines h = ([], (h.0, refl))
  rounds_replayed spot (round ∷ rounds) old new lines (mid, first, rest, one, more, all) =
      let now : Happened old (world.Calm 1) mid = round_passes calls members spot round old mid first one in
      let others : Replayed mid (rounds_of (length rounds)) new = rounds_replayed spot rounds mid new rest more in
      (now.0 ++ others.0, (mid, now.0, others.0, now.1, others.1, refl))

  event_happened : (spot : Spot) (e : WorldEvent) (old new : WorldState C) (lines : List (List ℕ)) → Runs old → TellsAt calls members spot old e new lines → Happened old e new
  event_happened spot (world.Happen e) old new lines w h = (h.0, h.1)
  event_happened spot (world.Calm rounds) old new lines w h =
      let passed : Replayed old (rounds_of rounds) new = subst (λ (n : ℕ). Replayed old (rounds_of n) new) (rounds_counted rounds) (rounds_replayed spot (first_rounds rounds) old new lines h) in
      (passed.0, rounds_calm calls rounds old new passed.0 w.on passed.1)

  all_replayed : (number : ℕ) (events : List (ℕ × WorldEvent)) (old new : WorldState C) (lines : List (List ℕ)) → Runs old → InTurn (TellsIn calls members) old (numbered_from number events) new lines → Replayed old (map (λ e. e.1) events) new
  all_replayed number [] old new lines w h = ([], (h.0, refl))
  all_replayed number (e ∷ events) old new lines w (mid, first, rest, one, more, all) =
      let now : Happened old e.1 mid = event_happened (record { line = e.0; number = number }) e.1 old mid first w one in
      let others : Replayed mid (map (λ e. e.1) events) new = all_replayed (suc number) events mid new rest (happens_runs calls e.1 old mid now.0 w now.1) more in
      (now.0 ++ others.0, (mid, now.0, others.0, now.1, others.1, refl))

  pub trace_replayed : (c : C) (events : List (ℕ × WorldEvent)) (w : WorldState C) (lines : List (List ℕ)) → TracesWorld calls members (opening_world calls c) events w lines → Replayed (opening_world calls c) (map (λ e. e.1) events) w
  trace_replayed c events w lines h = all_replayed 1 events (opening_world calls c) w lines (record { on = refl; last = opening_lasts calls c }) h
