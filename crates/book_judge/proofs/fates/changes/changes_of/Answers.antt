use Rattle.book_judge.proofs.Common.{changes_in, owes_never}
use Rattle.book_judge.proofs.Ends.Changed.{changes_first, changes_last, changes_next}
use Rattle.book_judge.proofs.Ends.Owed.{before_last}
use Rattle.book_judge.proofs.fates.changes.changes_of.Goals as goal

pub loop-place-init : goal.loop-place-init
loop-place-init c =
    changes_first c.args.deeds.now c.new-changes.result.items c.new-owed.result c.new-changes.ensures.items
    c.new-owed.ensures

pub loop-place-preserved : goal.loop-place-preserved
loop-place-preserved c = (
  changes_next c.args.deeds.now c.loop-place.place c.index-deeds-place.result c.loop-place.changes.items
      c.push_turn.new.changes.items
      (changes_in owes_never c.args.deeds.now) c.loop-place.owed c.note.new.self c.owes-owes.result c.turn_of.result
      c.loop-place-test.true
      c.index-deeds-place.is c.owes-owes.ensures c.turn_of.ensures c.in_ok-push_turn.ensures c.in_ok-note.ensures
      c.loop-place.invariant.1
      c.loop-place.invariant.0,
  before_last c.loop-place.place c.index-deeds-place.result c.loop-place.owed c.note.new.self c.in_ok-note.ensures
      c.loop-place.invariant.1,
)

pub returns : goal.returns
returns c =
    changes_last c.args.deeds.now c.loop-place.place c.loop-place.changes.items
    (changes_in owes_never c.args.deeds.now) c.loop-place.owed
    c.loop-place-test.false c.loop-place.invariant.0
