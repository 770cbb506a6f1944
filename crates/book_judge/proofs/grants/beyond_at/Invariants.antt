use Rattle.book_judge.proofs.Common.{◌≡◌, ◌<◌, ℕ, List, length, Crossing}
use Rattle.book_judge.specs.Inside.Allocations.{AreAllocations, WithinAt}
use Rattle.book_judge.proofs.grants.beyond_at.Given as goal

abbrev pub invariant-loop-place : goal.invariant-loop-place
invariant-loop-place l = (log : List Crossing) → AreAllocations log l.allocations → l.crossed ≡ length log
    → (i : ℕ) → i < l.place → WithinAt log l.starts l.lives i
