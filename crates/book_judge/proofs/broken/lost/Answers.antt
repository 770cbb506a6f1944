use Rattle.book_judge.proofs.FirstLives.Lost.{closed_none, closed_some}
use Rattle.book_judge.proofs.broken.lost.Goals as goal

pub returns-in_err-place : goal.returns-in_err-place
returns-in_err-place c = λ log are.
    rw c.from_residual.ensures (closed_none c.args.names.now c.args.lives.now c.args.handed.now c.args.fates.now log are c.requires.counts.1 c.in_err-place.ensures)

pub returns : goal.returns
returns c = λ log are. closed_some c.args.names.now c.args.lives.now c.args.handed.now c.args.fates.now log c.in_ok-place.place c.with_match.result are c.requires.counts.1 c.in_ok-place.ensures
    (c.with_match.ensures log are)
