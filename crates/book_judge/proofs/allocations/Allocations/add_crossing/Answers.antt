use Rattle.book_judge.proofs.Common.{Bool, List, Crossing, orders_of, subst, sym}
use Rattle.book_judge.specs.Inside.Allocations.{Adds, by_crossing, by_grants, grants_in}
use Rattle.book_judge.proofs.Crossed.Streamed.{on_ok}
use Rattle.book_judge.proofs.Crossed.Supplies.{on_control}
use Rattle.book_judge.proofs.allocations.Allocations.add_crossing.Goals as goal

pub returns-in-In : goal.returns-in-In
returns-in-In c =
    on_ok c.add_orders.result _ _
    (λ adds. subst (λ (d : Crossing). Adds c.args.place (by_crossing c.args.place d) c.args.self.now c.add_orders.new.self) (sym c.in-In.is)
    (on_control c.args.place c.in-In.message c.args.self.now c.add_orders.new.self (sym c.if-eq.ensures)
    (subst (λ (text : List Bool). Adds c.args.place (by_grants c.args.place c.in-In.message.flow.destination c.in-In.message.flow.source (grants_in (orders_of text))) c.args.self.now c.add_orders.new.self)
    c.bits-text.ensures.same adds))) c.add_orders.ensures
