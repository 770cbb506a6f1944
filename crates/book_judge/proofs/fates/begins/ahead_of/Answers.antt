use Rattle.book_judge.proofs.Ends.Ahead.{ahead_init, ahead_last, ahead_next}
use Rattle.book_judge.proofs.fates.begins.ahead_of.Goals as goal

pub changes-init : goal.changes-init
changes-init c = ahead_init c.args.changes.now c.new-ahead.result c.new-ahead.ensures

pub changes-preserved : goal.changes-preserved
changes-preserved c =
    ahead_next c.args.changes.now c.changes.place c.index-changes-place.result c.changes.ahead c.note.new.self
    c.changes-test.true
    c.index-changes-place.is c.in_ok-note.ensures c.changes.invariant

pub returns : goal.returns
returns c = ahead_last c.args.changes.now c.changes.place c.changes.ahead c.changes-test.false c.changes.invariant.0
