use Rattle.std.proofs.Common.{◌≡◌, ℕ, ◌<◌, ◌≤◌, get_or, length, min}
use Rattle.interface.specs.Host.{most_imps}
use Rattle.routing.proofs.vector.Vector.lower.Given as goal

-- the distances so far are lowered, and those that are left are as they were
abbrev pub invariant-loop-place : goal.invariant-loop-place
invariant-loop-place l = record {
  one_each : length l.least ≡ most_imps;
  lowered : (k : ℕ) → k < l.place → get_or l.least k 0 ≡ min (get_or l.fn.least k 0) (get_or l.self k 0);
  left : (k : ℕ) → l.place ≤ k → get_or l.least k 0 ≡ get_or l.fn.least k 0;
}
