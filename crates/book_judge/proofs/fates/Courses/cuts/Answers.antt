use Rattle.book_judge.proofs.Ends.Opens.{cuts_known}
use Rattle.book_judge.proofs.fates.Courses.cuts.Goals as goal

pub returns : goal.returns
returns c = λ deeds h.
    cuts_known deeds c.args.self.now.changes.items c.deref.result.now c.in_ok-changes.changes.items c.deref-2.result.now
    c.in_ok-ahead.ahead h.0 c.deref.ensures.value c.in_ok-changes.ensures c.deref-2.ensures.value c.in_ok-ahead.ensures
