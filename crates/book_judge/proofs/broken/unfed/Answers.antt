use Rattle.book_judge.proofs.Peace.{fed_none, fed_some}
use Rattle.book_judge.proofs.broken.unfed.Goals as goal

pub returns-in_err-place : goal.returns-in_err-place
returns-in_err-place c = λ log are. rw c.from_residual.ensures (fed_none c.args.names.now c.args.lives.now c.args.handed.now log are c.requires.counts.1 c.in_err-place.ensures)

pub returns : goal.returns
returns c = λ log are. fed_some c.args.names.now c.args.lives.now c.args.handed.now log c.in_ok-place.place c.with_match.result are c.requires.counts.1 c.in_ok-place.ensures
    (c.with_match.ensures log are)
