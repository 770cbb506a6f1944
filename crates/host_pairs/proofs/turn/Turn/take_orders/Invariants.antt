use Rattle.std.proofs.Common.{length}
use Rattle.host_pairs.specs.Turn.{orders_taken}
use Rattle.host_pairs.specs.Control.{orders_in}
use Rattle.host_pairs.specs.Said.{said_by}
use Rattle.host_pairs.proofs.ControlLemmas.{IsLeft}
use Rattle.host_pairs.proofs.turn.Turn.take_orders.Given as goal

abbrev pub invariant-orders : goal.invariant-orders
invariant-orders l =
    IsLeft l.peer l.stamp l.rest l.self (orders_taken l.peer l.stamp (orders_in l.fn.octets) l.fn.self) (said_by l.peer l.stamp (orders_in l.fn.octets) l.fn.self)

abbrev pub decreases-orders : goal.decreases-orders
decreases-orders l = length l.rest
