use Rattle.replay.proofs.Common.{Appends, ended_line}
use Rattle.std.proofs.Common.{subst}
use Rattle.replay.specs.Output.{crossing_line}
use Rattle.replay.proofs.Shown.{crossing_written}
use Rattle.replay.proofs.print.print_crossings.Goals as goal

pub loop-crossing-preserved : goal.loop-crossing-preserved
loop-crossing-preserved g c = (
  crossing_written c.args.detail (g.W.Output.contents c.args.writer.now) (g.W.Output.contents c.loop-crossing.writer) (g.W.Output.contents c.print_crossing_in.new.writer) c.split_at.result.1.now c.loop-crossing.crossing-index c.crossing-item.result c.loop-crossing-test.true c.loop-crossing.invariant.0
      (subst (λ x. Appends (g.W.Output.contents c.loop-crossing.writer) (g.W.Output.contents c.print_crossing_in.new.writer) (ended_line (crossing_line c.args.detail x))) c.crossing-item.is c.in_ok-print_crossing_in.ensures.written),
  c.in_ok-print_crossing_in.ensures.failed,
)
