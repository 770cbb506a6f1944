use Rattle.book_judge.specs.Inside.Contacts.{but_closes}
use Rattle.book_judge.proofs.Ends.Opens.{said_known}
use Rattle.book_judge.proofs.fates.Courses.said.Goals as goal

pub returns : goal.returns
returns c = λ deeds h k.
    said_known c.args.life.now deeds c.args.self.now h c.args.all c.end-cut.result c.args.fate c.said_by.result
    c.known.result c.deref.result.now c.deref.ensures.value c.said_by.ensures (c.known.ensures deeds h)
    (c.end-cut.ensures (but_closes deeds) k)
