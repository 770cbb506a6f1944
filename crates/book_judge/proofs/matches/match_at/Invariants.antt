use Rattle.std.proofs.Common.{◌≡◌, ◌<◌, ℕ, false}
use Rattle.book_judge.specs.Inside.Chains.{fits_at}
use Rattle.book_judge.proofs.matches.match_at.Given as goal

abbrev pub invariant-loop-place : goal.invariant-loop-place
invariant-loop-place l = (i : ℕ) → i < l.place → fits_at l.asked l.life l.names l.lives i ≡ false
