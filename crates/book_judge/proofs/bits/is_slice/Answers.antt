use Rattle.std.proofs.Common.{drop, ◌∙◌, arith}
use Rattle.book_judge.proofs.FirstLives.Fed.{get_drop, prefix_more, slice_whole}
use Rattle.book_judge.proofs.bits.is_slice.Goals as goal

pub loop-i-preserved : goal.loop-i-preserved
loop-i-preserved c =
    prefix_more (drop c.args.from c.args.text.now) c.args.bits.now c.loop-i.i c.get.result c.get-in-loop-i.result c.same_found.result
    (c.get.ensures ∙ get_drop c.args.from c.args.text.now c.loop-i.i) c.get-in-loop-i.ensures c.same_found.ensures c.if-not-same_found.false c.loop-i.invariant

pub returns : goal.returns
returns c = (
  c.if-from-to.false,
  omega (arith, c.if-to-len.false, c.len.ensures),
  slice_whole c.args.from c.args.to c.loop-i.i c.args.text.now c.args.bits.now c.if-from-to.false (c.if-to-from.false ∙ c.len-else-to-len.ensures)
      (omega (arith, c.loop-i-test.false, c.loop-i.auto.i-end, c.len-i-end.ensures)) c.loop-i.invariant,
)
