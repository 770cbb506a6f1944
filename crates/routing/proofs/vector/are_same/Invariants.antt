use Rattle.std.proofs.Common.{◌≡◌, ℕ, ◌+◌, ◌<◌, true, get_or}
use Rattle.routing.proofs.vector.are_same.Given as goal

-- the places so far have the same numbers in both halves, or not
abbrev pub invariant-loop-place : goal.invariant-loop-place
invariant-loop-place l = record {
  told : l.same ≡ true → (k : ℕ) → k < l.place → (get_or l.these k 0 ≡ get_or l.those k 0) × (get_or l.these (k + 31) 0 ≡ get_or l.those (k + 31) 0);
  found : l.these ≡ l.those → l.same ≡ true;
}
