use Rattle.book_judge.proofs.Common.{take, AreJoined}
use Rattle.book_judge.proofs.joined.join_data.Given as goal

abbrev pub invariant-loop-place : goal.invariant-loop-place
invariant-loop-place l = AreJoined l.comes (take l.place l.log) l.joined
