use Rattle.topology.proofs.Common.{◌≡◌, numbered_below}
use Rattle.topology.proofs.network.by_number.Given as goal

abbrev pub invariant-loop-number : goal.invariant-loop-number
invariant-loop-number l = l.sorted.items ≡ numbered_below l.imps l.number
