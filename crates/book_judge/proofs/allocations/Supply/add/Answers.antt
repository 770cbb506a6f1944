use Rattle.book_judge.proofs.Crossed.Supplies.{supply_more}
use Rattle.book_judge.proofs.allocations.Supply.add.Goals as goal

pub returns : goal.returns
returns c = supply_more c.args.place c.args.messages c.args.bits c.args.self.now (record { all = c.with_more-all.result; totals = c.push.new.self }) c.with_more-all.ensures c.in_ok-push.ensures.items
