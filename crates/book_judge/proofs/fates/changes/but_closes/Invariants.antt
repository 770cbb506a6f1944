use Rattle.book_judge.proofs.Common.{◌≡◌, take, filter}
use Rattle.book_judge.specs.Inside.Changes.{opens}
use Rattle.book_judge.proofs.fates.changes.but_closes.Given as goal

abbrev pub invariant-loop-change : goal.invariant-loop-change
invariant-loop-change l = l.rest.items ≡ filter opens (take l.change-index l.changes)
