use Rattle.std.proofs.Common.{sym, ◌∙◌}
use Rattle.book_judge.proofs.Crossed.Supplies.{numbered_new}
use Rattle.book_judge.proofs.allocations.Allocations.number.Goals as goal

pub returns : goal.returns
returns c =
    numbered_new c.len-number.result c.args.flow c.args.self.now (record { numbers = c.set.new.self; supplies = c.push.new.self }) c.new.result
    (sym c.get.ensures ∙ c.in_default.is) (c.len-number.ensures ∙ c.args.self.now.supplies.ok.0) c.in_ok-set.ensures
    c.in_ok-push.ensures.items c.new.ensures.all c.new.ensures.totals
