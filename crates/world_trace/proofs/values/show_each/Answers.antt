use Rattle.world_trace.proofs.Common.{◌≡◌, ◌+◌, List, ℕ, [], ◌∷◌, ◌++◌, ap, map, rules, sym, take, ◌∙◌, has_written_append, has_written_of_eq, mark_after, marked}
use Rattle.world_trace.proofs.Lists.{map_take, mark_more, marked_more}
use Rattle.world_trace.proofs.values.show_each.Goals as goal

pub loop-item-preserved : goal.loop-item-preserved
loop-item-preserved g c =
    let l = c.loop-item in
    let items = c.args.items.now in
    let so : List (List ℕ) = map g.T.Json.text (take l.item-index items) in
    let next : map g.T.Json.text (take (l.item-index + 1) items) ≡ so ++ g.T.Json.text c.item-item.result ∷ [] =
    map_take g.T.Json.text items l.item-index c.item-item.result c.loop-item-test.true ∙ ap (λ x. so ++ g.T.Json.text x ∷ []) (sym c.item-item.is) in (
      λ plain.
          let before = l.invariant.0 plain in
          let mark = c.write_str.ensures.writes before.plain (search rules) in
          let item = c.show.ensures mark.plain (search rules) in
          has_written_of_eq _ _ _ _ _
          (ap (λ m. marked c.args.mark.now so ++ (m ++ g.T.Json.text c.item-item.result)) l.invariant.1 ∙ sym (marked_more c.args.mark.now so (g.T.Json.text c.item-item.result)) ∙ ap (marked c.args.mark.now) (sym next))
          (has_written_append _ _ _ _ _ _ before (has_written_append _ _ _ _ _ _ mark item)),
      sym (ap (mark_after c.args.mark.now) next ∙ mark_more c.args.mark.now so (g.T.Json.text c.item-item.result)),
    )
