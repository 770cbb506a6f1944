use Rattle.book_judge.proofs.Common.{reverse, take, AreMade}
use Rattle.book_judge.proofs.lives.unmade_at.Given as goal

abbrev pub invariant-loop-place : goal.invariant-loop-place
invariant-loop-place l = AreMade (reverse l.log) (take l.place l.lives)
