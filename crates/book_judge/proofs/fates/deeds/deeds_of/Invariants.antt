use Rattle.book_judge.proofs.Common.{◌≡◌, reverse, take, deeds_in}
use Rattle.book_judge.proofs.fates.deeds.deeds_of.Given as goal

abbrev pub invariant-loop-place : goal.invariant-loop-place
invariant-loop-place l = l.deeds.items ≡ deeds_in (reverse (take l.place l.log))
