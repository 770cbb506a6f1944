use Rattle.subnet.proofs.Common.{◌≡◌, drop, list_any}
use Rattle.subnet.proofs.Calls.Starts.{is_awaited_beside_it}
use Rattle.subnet.proofs.starting.is_awaited_beside.Given as goal

-- none of the IMPs so far
abbrev pub invariant-loop-at : goal.invariant-loop-at
invariant-loop-at l = list_any (is_awaited_beside_it l.imp) (drop l.at l.imps) ≡ list_any (is_awaited_beside_it l.imp) l.imps
