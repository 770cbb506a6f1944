-- No event of a script changes who the strangers are, and no list of them does.
use Rattle.world_replay.proofs.Common.{◌≡◌, List, [], ◌∷◌, Result, ap, ◌∙◌, Calls, WorldState, WorldFault, WorldEvent}
use Rattle.net_sim.proofs.lemmas.{calm_same, step_same}
use Rattle.world_replay.specs.Output.{Shown}
use Rattle.world_replay.specs.Replay.{EndsIn, EventGives, Replays, StopsIn}
use Rattle.world_script.specs.declared.event.WorldEvent.TheVariants as script

module _ {C : Type 0} (calls : Calls C) where
  pub script_same : (e : WorldEvent) (old : WorldState C) (r : Result (Unit {0}) WorldFault) (new : WorldState C) → EventGives calls old e r new → new.strangers ≡ old.strangers
  script_same (script.Happen e) old r new h = step_same calls e old r new h
  script_same (script.Calm rounds) old r new h = calm_same calls rounds old r new h

  pub replay_same : (events : List WorldEvent) (old new : WorldState C) (lines : List Shown) → Replays calls old events new lines → new.strangers ≡ old.strangers
  replay_same [] old new lines h = ap (λ (w : WorldState C). w.strangers) h.0
  replay_same (e ∷ events) old new lines (mid, first, rest, happens, more, all) =
      replay_same events mid new rest more ∙ script_same e old happens.outcome mid happens.gives

  -- nor do those before memory ran out
  pub part_same : (events : List WorldEvent) (old new : WorldState C) (lines : List Shown) → EndsIn calls (StopsIn calls) old events new lines → new.strangers ≡ old.strangers
  part_same events old new lines h = script_same h.last h.mid h.goes.outcome new h.goes.gives ∙ replay_same h.done old h.mid h.front h.before
