use Rattle.book_judge.proofs.Common.{◌≤◌, length, reverse, take, AreOuts}
use Rattle.book_judge.proofs.Identities.Asked.{AreLast}
use Rattle.book_judge.proofs.stamps.outs_of.Given as goal

abbrev pub invariant-loop-place : goal.invariant-loop-place
invariant-loop-place l = (AreLast l.last (reverse (take l.place l.log)) × AreOuts l.place l.outs.items l.log) × (l.place ≤ length l.log)
