use Rattle.world_trace.proofs.Common.{◌≡◌, ◌+◌, List, ℕ, [], ◌++◌, ap, map, rules, sym, take, ◌∙◌, has_written_append, has_written_of_eq, all_in, Service, mark_after, marked, service_object}
use Rattle.world_trace.proofs.Lists.{blocks_more, mark_after_append, marked_append}
use Rattle.world_trace.proofs.services.show_blocks.Goals as goal

pub loop-block-preserved : goal.loop-block-preserved
loop-block-preserved g c =
    let l = c.loop-block in
    let bs = c.args.blocks.now in
    let so : List (List ℕ) = map service_object (all_in (take l.block-index bs)) in
    let more : List (List ℕ) = map service_object c.as_slice.result.now in
    let next : map service_object (all_in (take (l.block-index + 1) bs)) ≡ so ++ more =
    blocks_more bs l.block-index c.block-item.result c.loop-block-test.true c.block-item.is ∙ ap (λ (x : List Service). so ++ map service_object x) (sym c.as_slice.ensures) in (
      λ plain.
          let before = l.invariant.0 plain in
          let each = c.show_each.ensures.written before.plain (search rules) in
          has_written_of_eq _ _ _ _ _ (ap (λ m. marked [] so ++ marked m more) l.invariant.1 ∙ sym (marked_append [] so more) ∙ ap (marked []) (sym next)) (has_written_append _ _ _ _ _ _ before each),
      c.in_ok-mark.ensures.next ∙ ap (λ m. mark_after m more) l.invariant.1 ∙ sym (mark_after_append [] so more) ∙ ap (mark_after []) (sym next),
    )
