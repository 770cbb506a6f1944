use Rattle.book_judge.proofs.Ends.Begun.{end_known}
use Rattle.book_judge.proofs.fates.Courses.end.Goals as goal

pub returns : goal.returns
returns c = λ deeds h.
    end_known c.args.life.now deeds c.args.self.now h c.args.all c.end_by.result c.known.result c.deref.result.now
    c.deref.ensures.value c.end_by.ensures (c.known.ensures deeds h)
