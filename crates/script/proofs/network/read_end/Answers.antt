use Rattle.script.specs.Steps.{IsEnd}
use Rattle.script.proofs.Places.{no_pair, no_end_imp, no_end_line}
use Rattle.script.proofs.network.read_end.Goals as goal

pub returns-in_err-imp : goal.returns-in_err-imp
returns-in_err-imp c = rw c.from_residual.ensures (no_pair IsEnd c.args.words.now c.in_err-imp.ensures)

pub returns-in_err-read_imp : goal.returns-in_err-read_imp
returns-in_err-read_imp c = rw c.from_residual-in_err-read_imp.ensures (no_end_imp c.args.words.now c.in_ok-imp.imp.now c.in_ok-imp.line.now c.in_ok-imp.ensures.0 c.in_ok-imp.ensures.1 c.in_err-read_imp.ensures)

pub returns-in_err-plain_number : goal.returns-in_err-plain_number
returns-in_err-plain_number c = rw c.from_residual-in_err-plain_number.ensures (no_end_line c.args.words.now c.in_ok-imp.imp.now c.in_ok-imp.line.now c.in_ok-imp.ensures.0 c.in_ok-imp.ensures.1 c.in_err-plain_number.ensures)
