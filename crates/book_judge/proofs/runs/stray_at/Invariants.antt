use Rattle.std.proofs.Common.{take, reverse}
use Rattle.book_judge.proofs.Crossed.Mailboxes.{Agrees, IsFree}
use Rattle.book_judge.proofs.runs.stray_at.Given as goal

abbrev pub invariant-loop-place : goal.invariant-loop-place
invariant-loop-place l = Agrees l.mail (reverse (take l.place l.log)) × IsFree (reverse (take l.place l.log))
