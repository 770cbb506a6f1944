-- What replays show.
use Rattle.replay.proofs.Common.{Calls, RawEvent}
use Rattle.std.proofs.Common.{◌≡◌, List, [], ◌∷◌, ◌++◌, reverse, ap, sym, ◌∙◌}
use Rattle.std.proofs.lemmas.List.{append_assoc, reverse-append}
use Rattle.replay.specs.Output.{Shown, crossings_of}
use Rattle.replay.specs.Replay.{EndsIn, Replays, StopsIn}
use Rattle.replay.proofs.Shown.{crossings_again, crossings_of-append, happens_shows}

-- what a replay shows is what its log gained
pub replays_show : {C : Type 0} (calls : Calls C) (old new : C) (events : List RawEvent) (shown : List Shown) → Replays calls old events new shown
    → (calls.seen new).log ≡ reverse (crossings_of shown) ++ (calls.seen old).log
replays_show calls old new [] shown h = ap (λ c. (calls.seen c).log) h.0 ∙ ap (λ s. reverse (crossings_of s) ++ (calls.seen old).log) (sym h.1)
replays_show calls old new (e ∷ events) shown (mid, first, rest, happens, more, whole) =
    let all : crossings_of shown ≡ crossings_of first ++ crossings_of rest = ap crossings_of whole ∙ crossings_of-append first rest in
    replays_show calls mid new events rest more
    ∙ ap (λ log. reverse (crossings_of rest) ++ log) (happens_shows calls old mid e first happens)
    ∙ sym (append_assoc (reverse (crossings_of rest)) (reverse (crossings_of first)) (calls.seen old).log)
    ∙ ap (λ cs. cs ++ (calls.seen old).log) (sym (reverse-append (crossings_of first) (crossings_of rest)) ∙ ap reverse (sym all))

-- what a replay that ran out of memory shows is what its log gained
pub stops_show : {C : Type 0} (calls : Calls C) (old new : C) (events : List RawEvent) (shown : List Shown) → EndsIn calls StopsIn old events new shown
    → (calls.seen new).log ≡ reverse (crossings_of shown) ++ (calls.seen old).log
stops_show calls old new events shown h =
    let all : crossings_of shown ≡ crossings_of h.front ++ h.goes.crossings =
    ap crossings_of h.lines ∙ crossings_of-append h.front h.own ∙ ap (λ cs. crossings_of h.front ++ cs) (ap crossings_of h.goes.lines ∙ crossings_again h.goes.crossings) in
    h.goes.grown
    ∙ ap (λ log. reverse h.goes.crossings ++ log) (replays_show calls old h.mid h.done h.front h.before)
    ∙ sym (append_assoc (reverse h.goes.crossings) (reverse (crossings_of h.front)) (calls.seen old).log)
    ∙ ap (λ cs. cs ++ (calls.seen old).log) (sym (reverse-append (crossings_of h.front) h.goes.crossings) ∙ ap reverse (sym all))
