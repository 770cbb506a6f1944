use Rattle.std.proofs.Common.{ap, ◌∙◌}
use Rattle.book_judge.specs.Inside.Begins.{begin_at}
use Rattle.book_judge.proofs.Ends.Begun.{known_after}
use Rattle.book_judge.proofs.fates.Courses.known.Goals as goal

pub returns : goal.returns
returns c = λ deeds h.
    known_after c.args.life.now deeds c.args.self.now h c.begin.result c.begin-2.result c.known_by.result
    (c.begin.ensures ∙ ap (begin_at c.args.self.now.ahead) c.asked.ensures)
    (c.begin-2.ensures ∙ ap (begin_at c.args.self.now.ahead) c.asked-2.ensures) c.known_by.ensures
