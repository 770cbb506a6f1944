use Rattle.book_judge.proofs.Common.{length, orders_of, named_in}
use Rattle.book_judge.proofs.Identities.Named.{IsNamed}
use Rattle.book_judge.proofs.requests.named_in.Given as goal

abbrev pub invariant-orders : goal.invariant-orders
invariant-orders l = IsNamed l.own l.foreign l.rest (named_in l.own l.foreign (orders_of l.text))

abbrev pub decreases-orders : goal.decreases-orders
decreases-orders l = length l.rest
