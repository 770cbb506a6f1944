use Rattle.book_judge.proofs.Common.{◌++◌, length, orders_of, deeds_by}
use Rattle.book_judge.proofs.Ends.Suited.{AreAdded}
use Rattle.book_judge.proofs.fates.deeds.add_orders.Given as goal

abbrev pub invariant-orders : goal.invariant-orders
invariant-orders l =
    AreAdded l.comes l.place l.host l.peer l.rest l.deeds.items
    (l.fn.deeds.items ++ deeds_by l.comes l.place l.host l.peer (orders_of l.text))

abbrev pub decreases-orders : goal.decreases-orders
decreases-orders l = length l.rest
