use Rattle.std.proofs.Common.{reverse, take}
use Rattle.book_judge.proofs.Ends.Noted.{AreSeen}
use Rattle.book_judge.proofs.fates.unsuited_at.Given as goal

abbrev pub invariant-loop-place : goal.invariant-loop-place
invariant-loop-place l = AreSeen (reverse l.log) (take l.place l.lives) l.fates l.ends
