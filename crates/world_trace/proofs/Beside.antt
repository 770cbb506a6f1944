-- An event beside a stranger has one line.
use Rattle.world_trace.proofs.Common.{◌≡◌, List, [], ◌∷◌, ℕ, ap, ap₂, refl, sym, ◌∙◌, append-nil, Calls, Seen, Crossing, WorldState, beside_third, Event, Sizes, event_text, line_of, change_of}
use Rattle.world_replay.proofs.lemmas.Gained.{HaveGains, replays_show}
use Rattle.world_replay.specs.Output.{Shown, crossings_of, output}
use Rattle.world_replay.specs.Replay.{Happens, world_kind}
use Rattle.world_replay.specs.WorkedStrangers.{ShowsOnly}
use Rattle.world_script.specs.declared.event.WorldEvent.TheVariants as world
use Rattle.world_trace.specs.Worked.{TracesOnly}
use Rattle.world_trace.proofs.Telling.{crossings_gained}

-- what crossed is what the lines say that crossed
crossed_shown : (calls : Calls Seen) (e : Event) (new : WorldState Seen) (lines : List Shown)
    (h : Happens calls beside_third (world.Happen e) new lines)
    → h.gains.crossings ≡ crossings_of lines
crossed_shown calls e new lines h =
    let said : HaveGains beside_third.kept new.kept lines =
    replays_show (world_kind calls) beside_third (world.Happen e ∷ []) new lines
    (new, lines, [], h, (refl, refl), sym (append-nil lines)) in
    sym (crossings_gained [] new.kept.book.crossings h.gains.crossings h.gains.crossed)
    ∙ crossings_gained [] new.kept.book.crossings (crossings_of lines) said.crossed

pub traces_only : (calls : Calls Seen) (e : Event) (shows : List Shown) → ShowsOnly calls (world.Happen e) shows
    → TracesOnly calls e (crossings_of shows) (output Sizes shows)
traces_only calls e shows only members spot new lines (shown, happens, is) =
    let same : shown ≡ shows = only new shown happens in
    is ∙ ap₂ (λ (cs : List Crossing) (p : List ℕ). line_of spot 0 (event_text (world.Happen e)) cs p (change_of members beside_third new) ∷ [])
    (crossed_shown calls e new shown happens ∙ ap crossings_of same) (ap (output Sizes) same)
