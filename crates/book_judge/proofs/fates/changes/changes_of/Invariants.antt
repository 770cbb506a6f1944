use Rattle.std.proofs.Common.{◌≡◌, ◌++◌, drop}
use Rattle.book_judge.specs.Inside.Changes.{changes_in, owes, owes_never}
use Rattle.book_judge.proofs.Ends.Owed.{AreBefore}
use Rattle.book_judge.proofs.fates.changes.changes_of.Given as goal

abbrev pub invariant-loop-place : goal.invariant-loop-place
invariant-loop-place l =
    (l.changes.items ++ changes_in (owes l.owed) (drop l.place l.deeds) ≡ changes_in owes_never l.deeds) × AreBefore
    l.place l.owed
