use Rattle.script.proofs.Lines.{lines_cut, lines_uncut}
use Rattle.script.proofs.input.first_line.Goals as goal

pub returns-in-Some-clause-lines : goal.returns-in-Some-clause-lines
returns-in-Some-clause-lines c = lines_cut c.args.text.now c.in-Some.line.now c.in-Some.more.now c.in-Some.ensures.0 c.in-Some.ensures.1

pub returns-in-None-clause-lines : goal.returns-in-None-clause-lines
returns-in-None-clause-lines c = lines_uncut c.args.text.now c.in-None.ensures
