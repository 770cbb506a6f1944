use Rattle.std.proofs.Common.{◌≡◌, ℕ, ◌+◌, ◌-◌, [], length, map, slice_index_or}
use Rattle.net_sim.proofs.open.Table.widen.Given as goal

-- the lists have what they had
abbrev pub invariant-more : goal.invariant-more
invariant-more l = (k : ℕ) → slice_index_or (map (λ list. list.items) l.self-inside.lists.items) k [] ≡ slice_index_or l.fn.self k []

abbrev pub decreases-more : goal.decreases-more
decreases-more l = l.key + 1 - length l.self-inside.lists.items
