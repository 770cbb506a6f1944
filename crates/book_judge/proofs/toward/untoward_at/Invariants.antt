use Rattle.book_judge.proofs.Common.{take, is_host}
use Rattle.book_judge.specs.Toward.{AreToward}
use Rattle.book_judge.proofs.toward.untoward_at.Given as goal

abbrev pub invariant-loop-place : goal.invariant-loop-place
invariant-loop-place l = AreToward (λ h. is_host l.strangers h) (take l.place l.lives) (take l.place l.handed)
