use Rattle.world_replay.proofs.Common.{subst, take_all, shown_notices, Fronts}
use Rattle.world_replay.proofs.News.{fronts_none, notice_front}
use Rattle.world_replay.proofs.print.print_notices.Goals as goal

pub loop-told-init : goal.loop-told-init
loop-told-init g c = (fronts_none c.args.detail c.args.crossings.now.before c.args.crossings.now.left.now (g.W.Output.contents c.args.writer.now), c.requires)

pub loop-told-preserved : goal.loop-told-preserved
loop-told-preserved g c = (
  notice_front c.args.detail c.args.crossings.now.before c.loop-told.crossings.before c.print_before.new.self.before c.args.crossings.now.left.now c.loop-told.crossings.left.now c.print_before.new.self.left.now c.args.notices.now c.loop-told.told-index c.told-item.result
      (g.W.Output.contents c.args.writer.now) (g.W.Output.contents c.loop-told.writer) (g.W.Output.contents c.print_before.new.writer) (g.W.Output.contents c.print_told_line.new.writer)
      c.loop-told-test.true c.told-item.is c.in_ok-print_before.ensures.before c.in_ok-print_before.ensures.left c.loop-told.invariant.0 c.in_ok-print_before.ensures.written
      c.in_ok-print_told_line.ensures.written,
  c.in_ok-print_told_line.ensures.failed,
)

pub returns-clause-written : goal.returns-clause-written
returns-clause-written g c =
    subst (λ ts. Fronts c.args.detail c.args.crossings.now.before c.args.crossings.now.left.now (shown_notices ts) c.loop-told.crossings.before c.loop-told.crossings.left.now (g.W.Output.contents c.args.writer.now) (g.W.Output.contents c.loop-told.writer))
    (take_all c.loop-told.told-index c.args.notices.now c.loop-told-test.false) c.loop-told.invariant.0
