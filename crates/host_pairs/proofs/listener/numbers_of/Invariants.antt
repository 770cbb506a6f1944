use Rattle.std.proofs.Common.{◌≡◌, ◌||◌, ℕ, drop}
use Rattle.std.specs.BTreeSet.{contains}
use Rattle.std.specs.Ordering.{nat_cmp}
use Rattle.host_pairs.specs.Desk.{listens_on}
use Rattle.host_pairs.proofs.listener.numbers_of.Given as goal

abbrev pub invariant-loop-listener : goal.invariant-loop-listener
invariant-loop-listener l =
    (socket : ℕ) → (contains nat_cmp l.sockets socket || listens_on socket (drop l.listener-index l.listening)) ≡ listens_on socket l.listening
