use Rattle.std.proofs.Common.{◌∙◌}
use Rattle.book_judge.proofs.Ends.Begun.{courses_known}
use Rattle.book_judge.proofs.fates.courses_of.Goals as goal

pub returns : goal.returns
returns c =
    courses_known c.args.log.now c.deref.result.now c.deref-2.result.now c.in_ok-changes.changes.items
    c.in_ok-ahead.ahead (c.deref.ensures.value ∙ c.in_ok-deeds.ensures) c.in_ok-changes.ensures c.deref-2.ensures.value
    c.in_ok-ahead.ensures
