use Rattle.book_log.proofs.Common.{subst, All-more, Appends, text_more, ended_line, Crossing, IsCrossing, logged_line}
use Rattle.book_log.proofs.print.print_crossings.Goals as goal

pub loop-crossing-preserved : goal.loop-crossing-preserved
loop-crossing-preserved g c = (
  text_more logged_line c.args.crossings.now c.loop-crossing.crossing-index c.crossing-item.result (g.W.Output.contents c.args.writer.now) (g.W.Output.contents c.loop-crossing.writer) (g.W.Output.contents c.print_logged.new.writer)
      c.loop-crossing-test.true c.loop-crossing.invariant.0
      (subst (λ (x : Crossing). Appends (g.W.Output.contents c.loop-crossing.writer) (g.W.Output.contents c.print_logged.new.writer) (ended_line (logged_line x))) c.crossing-item.is c.in_ok-print_logged.ensures.written),
  c.in_ok-print_logged.ensures.failed,
  All-more IsCrossing c.args.crossings.now c.loop-crossing.crossing-index c.crossing-item.result c.loop-crossing-test.true c.loop-crossing.invariant.2 (subst IsCrossing c.crossing-item.is c.has_crossing_ranges.ensures),
)
