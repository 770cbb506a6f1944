use Rattle.script.proofs.Words.{no_mark, no_second_mark}
use Rattle.script.proofs.events.cut_twice.Goals as goal

pub returns-in_err-first : goal.returns-in_err-first
returns-in_err-first c = rw c.from_residual.ensures (no_mark 32 c.args.words.now c.in_err-first.ensures)

pub returns-in_err-second : goal.returns-in_err-second
returns-in_err-second c = rw c.from_residual-in_err-second.ensures (no_second_mark 32 c.args.words.now c.in_ok-first.first.now c.in_ok-first.rest.now c.in_ok-first.ensures.0 c.in_ok-first.ensures.1 c.in_err-second.ensures)
