use Rattle.book_log.proofs.Common.{subst, Appends, Host, text_more, ended_line, stranger_line}
use Rattle.book_log.proofs.print.print_strangers.Goals as goal

pub loop-stranger-preserved : goal.loop-stranger-preserved
loop-stranger-preserved g c = (
  text_more stranger_line c.args.strangers.now c.loop-stranger.stranger-index c.stranger-item.result (g.W.Output.contents c.args.writer.now) (g.W.Output.contents c.loop-stranger.writer) (g.W.Output.contents c.print_stranger.new.writer)
      c.loop-stranger-test.true c.loop-stranger.invariant.0
      (subst (λ (x : Host). Appends (g.W.Output.contents c.loop-stranger.writer) (g.W.Output.contents c.print_stranger.new.writer) (ended_line (stranger_line x))) c.stranger-item.is c.in_ok-print_stranger.ensures.written),
  c.in_ok-print_stranger.ensures.failed,
)
