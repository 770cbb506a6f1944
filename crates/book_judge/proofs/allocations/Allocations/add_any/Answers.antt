use Rattle.book_judge.proofs.Common.{Option, subst, sym}
use Rattle.std.specs.Result.{OnOk}
use Rattle.book_judge.specs.Inside.Allocations.{Adds, by_any}
use Rattle.book_judge.specs.declared.allocations.Grant.{Grant}
use Rattle.book_judge.proofs.Crossed.Supplies.{any_added}
use Rattle.book_judge.proofs.allocations.Allocations.add_any.Goals as goal

pub returns-in-Some : goal.returns-in-Some
returns-in-Some c =
    subst (λ (o : Option Grant). OnOk c.add.result (Adds c.args.place (by_any c.args.place c.args.host c.args.peer o) c.args.self.now c.add.new.self))
    (sym c.in-Some.is) c.add.ensures

pub returns-in-None : goal.returns-in-None
returns-in-None c =
    subst (λ (o : Option Grant). Adds c.args.place (by_any c.args.place c.args.host c.args.peer o) c.args.self.now c.args.self.now)
    (sym c.in-None.is) (any_added c.args.place c.args.host c.args.peer c.args.self.now)
