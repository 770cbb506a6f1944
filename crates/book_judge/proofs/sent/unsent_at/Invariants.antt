use Rattle.book_judge.proofs.Common.{◌<◌, ℕ, List, Crossing}
use Rattle.book_judge.specs.Inside.Sent.{ArriveIn, SentAt}
use Rattle.book_judge.proofs.sent.unsent_at.Given as goal

abbrev pub invariant-loop-place : goal.invariant-loop-place
invariant-loop-place l =
    (log : List Crossing) → ArriveIn log l.into l.arrivals → (i : ℕ) → i < l.place → SentAt log l.starts l.names l.lives i
