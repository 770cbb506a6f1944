use Rattle.book_judge.proofs.Common.{length, orders_of}
use Rattle.book_judge.specs.Inside.Allocations.{AreHeld, Grants, both, by_grants, grants_in}
use Rattle.book_judge.proofs.Crossed.Supplies.{AreOwed}
use Rattle.book_judge.proofs.allocations.Allocations.add_orders.Given as goal

abbrev pub invariant-orders : goal.invariant-orders
invariant-orders l = (granted : Grants) → AreHeld l.place granted l.fn.self
    → AreOwed l.place l.host l.peer l.rest
    (λ f from. both (by_grants l.place l.host l.peer (grants_in (orders_of l.text)) f from) (granted f from)) l.self

abbrev pub decreases-orders : goal.decreases-orders
decreases-orders l = length l.rest
