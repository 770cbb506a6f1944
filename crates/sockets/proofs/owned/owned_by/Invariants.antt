use Rattle.std.proofs.Common.{◌≡◌, ◌||◌, ℕ, drop}
use Rattle.std.specs.BTreeSet.{contains}
use Rattle.std.specs.Ordering.{nat_cmp}
use Rattle.sockets.specs.Owned.{some_own}
use Rattle.sockets.proofs.owned.owned_by.Given as goal

abbrev pub invariant-loop-peer : goal.invariant-loop-peer
invariant-loop-peer l =
    (socket : ℕ) → (contains nat_cmp l.sockets socket || some_own socket (drop l.peer-index l.peers)) ≡ some_own socket l.peers
