use Rattle.std.proofs.Common.{◌∙◌, sym}
use Rattle.book_judge.proofs.FirstLives.Lost.{taken_by}
use Rattle.book_judge.proofs.closes.has_taken.Goals as goal

pub returns : goal.returns
returns c = taken_by c.is_found.result c.args.asked.now c.args.life.now c.args.names.now c.args.lives.now c.args.handed.now c.is_found.ensures
    (sym c.receives.ensures ∙ c.if-not-receives.false)
