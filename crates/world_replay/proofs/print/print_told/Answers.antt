use Rattle.std.proofs.Common.{◌≡◌, ◌+◌, ◌-◌, length, min, rules, subst, sym}
use Rattle.std.proofs.lemmas.Result.{on_ok_weaker}
use Rattle.world_replay.proofs.News.{Reports, all_reports, no_reports, one_report}
use Rattle.world_replay.proofs.print.print_told.Goals as goal

pub loop-reported-init : goal.loop-reported-init
loop-reported-init g c = (no_reports c.args.detail c.args.before c.args.notices.now c.args.reports.now c.args.crossings.now.before c.args.crossings.now.left.now (g.W.Output.contents c.args.writer.now), c.requires)

pub loop-reported-preserved : goal.loop-reported-preserved
loop-reported-preserved g c =
    let counted : c.min-count.result ≡ min (c.reported-item.result.notices - c.loop-reported.before) (length c.loop-reported.waiting.now) = search rules in (
      subst (λ n. Reports c.args.detail c.args.before c.args.notices.now c.args.reports.now c.args.crossings.now.before c.args.crossings.now.left.now (c.loop-reported.reported-index + 1) n c.split_at.result.1.now c.print_notices.new.crossings.before c.print_notices.new.crossings.left.now (g.W.Output.contents c.args.writer.now) (g.W.Output.contents c.print_report.new.writer))
          (sym c.max-before.ensures)
          (one_report c.args.detail c.args.before c.args.notices.now c.args.reports.now c.args.crossings.now.before c.args.crossings.now.left.now c.loop-reported.reported-index c.loop-reported.before c.loop-reported.waiting.now c.split_at.result.0.now c.split_at.result.1.now c.reported-item.result c.min-count.result
          c.loop-reported.crossings.before c.print_notices.new.crossings.before c.loop-reported.crossings.left.now c.print_notices.new.crossings.left.now
          (g.W.Output.contents c.args.writer.now) (g.W.Output.contents c.loop-reported.writer) (g.W.Output.contents c.print_notices.new.writer) (g.W.Output.contents c.print_report.new.writer)
          c.loop-reported-test.true c.reported-item.is counted c.split_at.ensures.front c.split_at.ensures.back c.loop-reported.invariant.0 c.in_ok-print_notices.ensures.written c.in_ok-print_report.ensures.written),
      c.in_ok-print_report.ensures.failed,
    )

pub returns-clause-written : goal.returns-clause-written
returns-clause-written g c =
    on_ok_weaker c.print_notices-2.result (λ told.
    all_reports c.args.detail c.args.before c.args.notices.now c.args.reports.now c.args.crossings.now.before c.args.crossings.now.left.now c.loop-reported.reported-index c.loop-reported.before c.loop-reported.waiting.now c.loop-reported.crossings.before c.print_notices-2.new.crossings.before
    c.loop-reported.crossings.left.now c.print_notices-2.new.crossings.left.now (g.W.Output.contents c.args.writer.now) (g.W.Output.contents c.loop-reported.writer) (g.W.Output.contents c.print_notices-2.new.writer) c.loop-reported-test.false c.loop-reported.invariant.0 told) c.print_notices-2.ensures.written
