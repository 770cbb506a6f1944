use Rattle.subnet.proofs.Common.{ends_at, opened_from}
use Rattle.std.proofs.Common.{◌≡◌, ◌++◌, ℕ, drop, count_by}
use Rattle.subnet.proofs.opening.opened_imps.Given as goal

-- the IMPs so far, and those of the sites that are left
abbrev pub invariant-loop-at : goal.invariant-loop-at
invariant-loop-at l = l.imps.items ++ opened_from l.at (drop l.at l.sites) (λ (i : ℕ). count_by (ends_at i) l.lines) ≡ opened_from 0 l.sites (λ (i : ℕ). count_by (ends_at i) l.lines)
