use Rattle.book_log.proofs.Common.{subst, List, Bool, All-more, Appends, text_more, ended_line, IsHanded, handed_line}
use Rattle.book_log.proofs.print.print_lists.Goals as goal

pub loop-bits-preserved : goal.loop-bits-preserved
loop-bits-preserved g c = (
  text_more (handed_line) c.args.handed.now c.loop-bits.bits-index c.bits-item.result (g.W.Output.contents c.args.writer.now) (g.W.Output.contents c.loop-bits.writer) (g.W.Output.contents c.print_list.new.writer)
      c.loop-bits-test.true c.loop-bits.invariant.0
      (subst (λ (x : List Bool). Appends (g.W.Output.contents c.loop-bits.writer) (g.W.Output.contents c.print_list.new.writer) (ended_line (handed_line x))) c.bits-item.is c.in_ok-print_list.ensures.written),
  c.in_ok-print_list.ensures.failed,
  All-more IsHanded c.args.handed.now c.loop-bits.bits-index c.bits-item.result c.loop-bits-test.true c.loop-bits.invariant.2 (subst IsHanded c.bits-item.is c.has_list_range.ensures),
)
