use Rattle.std.proofs.Common.{◌≡◌, ◌||◌, ℕ, drop}
use Rattle.std.specs.BTreeSet.{contains}
use Rattle.std.specs.Ordering.{nat_cmp}
use Rattle.sockets.specs.Owned.{has_own}
use Rattle.sockets.proofs.owned.add_each.Given as goal

abbrev pub invariant-loop-entry : goal.invariant-loop-entry
invariant-loop-entry l =
    (socket : ℕ) → (contains nat_cmp l.sockets socket || has_own socket (drop l.entry-index l.entries)) ≡ (contains nat_cmp l.fn.sockets socket || has_own socket l.entries)
