-- Which sockets listen, so far as a set of their numbers is kept beside the listeners.
use Rattle.std.specs.Prelude.{◌≡◌, ℕ, List, MatchOption, Option}
use Rattle.std.specs.BTreeSet.{BTreeSet, contains}
use Rattle.std.specs.List.Sorted.{IsNonDecreasingBy}
use Rattle.std.specs.Ordering.{nat_cmp}
use Rattle.host_pairs.specs.Desk.{listens_on}
use Rattle.host_pairs.specs.declared.listener.Listener.{Listener}

-- no listener has a lower socket than one before it
abbrev pub AreAscending : List Listener → Type 0
AreAscending listening = IsNonDecreasingBy (λ l. l.socket) listening

-- the set has the sockets that listen, and no others
abbrev pub AreThese : BTreeSet ℕ → List Listener → Type 0
AreThese sockets listening = (socket : ℕ) → contains nat_cmp sockets socket ≡ listens_on socket listening

-- listeners without a set ascend
abbrev pub AreTold : Option (BTreeSet ℕ) → List Listener → Type 0
AreTold sockets listening = MatchOption sockets (AreAscending listening) (λ these. AreThese these listening)
