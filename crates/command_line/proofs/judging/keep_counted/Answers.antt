use Rattle.std.proofs.Common.{sym, ◌∙◌}
use Rattle.command_line.proofs.Verdicts.Among.{keeps_last, keeps_one}
use Rattle.command_line.proofs.judging.keep_counted.Goals as goal

pub loop-item-preserved : goal.loop-item-preserved
loop-item-preserved g c =
    keeps_one c.args.counted.now c.loop-item.left.now c.first_counts-counts.result.1.now c.args.all.items
    c.loop-item.kept.items c.keep_one.new.kept.items c.loop-item.item-iterator.rest.items c.next.new.self.rest.items
    c.in-Some.item c.first_counts-counts.result.0 c.loop-item.invariant c.in-Some.ensures.steps.0
    c.first_counts-counts.ensures.first c.first_counts-counts.ensures.rest c.in_ok-keep_one.ensures

pub returns : goal.returns
returns g c =
    keeps_last c.args.counted.now c.loop-item.left.now c.args.all.items c.loop-item.kept.items
    c.loop-item.item-iterator.rest.items c.loop-item.invariant
    (sym c.loop-item.item-iterator.rest.ok.0 ∙ c.in-None.ensures.steps.0)
