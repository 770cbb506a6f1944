use Rattle.script.specs.Steps.{AreImps}
use Rattle.script.proofs.Places.{no_pair, no_first_imp, no_second_imp}
use Rattle.script.proofs.network.read_two_imps.Goals as goal

pub returns-in_err-first : goal.returns-in_err-first
returns-in_err-first c = rw c.from_residual.ensures (no_pair AreImps c.args.words.now c.in_err-first.ensures)

pub returns-in_err-read_imp : goal.returns-in_err-read_imp
returns-in_err-read_imp c = rw c.from_residual-in_err-read_imp.ensures (no_first_imp c.args.words.now c.in_ok-first.first.now c.in_ok-first.second.now c.in_ok-first.ensures.0 c.in_ok-first.ensures.1 c.in_err-read_imp.ensures)

pub returns-in_err-read_imp-2 : goal.returns-in_err-read_imp-2
returns-in_err-read_imp-2 c = rw c.from_residual-in_err-read_imp-2.ensures (no_second_imp c.args.words.now c.in_ok-first.first.now c.in_ok-first.second.now c.in_ok-first.ensures.0 c.in_ok-first.ensures.1 c.in_err-read_imp-2.ensures)
