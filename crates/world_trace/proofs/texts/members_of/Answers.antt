use Rattle.std.proofs.Common.{◌≡◌, ◌+◌, List, ℕ, [], ◌∷◌, ◌++◌, ap, map, sym, take, ◌∙◌}
use Rattle.world_trace.proofs.Lists.{map_take}
use Rattle.world_trace.proofs.texts.members_of.Goals as goal

pub loop-item-preserved : goal.loop-item-preserved
loop-item-preserved g c =
    let l = c.loop-item in
    let items = c.args.items.now in
    let so : List (List ℕ) = map g.T.Json.text (take l.item-index items) in
    let next : map g.T.Json.text (take (l.item-index + 1) items) ≡ so ++ g.T.Json.text c.item-item.result ∷ [] =
    map_take g.T.Json.text items l.item-index c.item-item.result c.loop-item-test.true ∙ ap (λ x. so ++ g.T.Json.text x ∷ []) (sym c.item-item.is) in
    c.in_ok-push.ensures ∙ ap (λ (xs : List (List ℕ)). xs ++ g.T.Json.text c.item-item.result ∷ []) l.invariant ∙ sym next
