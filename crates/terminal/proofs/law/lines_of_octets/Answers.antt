use Rattle.terminal.proofs.LineLemmas.{are_lines, nothing_lost, only_reading, typed_read}
use Rattle.terminal.proofs.law.lines_of_octets.Goals as goal

pub returns-clause-nothing_lost : goal.returns-clause-nothing_lost
returns-clause-nothing_lost c = nothing_lost

pub returns-clause-whole_lines : goal.returns-clause-whole_lines
returns-clause-whole_lines c = are_lines

pub returns-clause-one_reading : goal.returns-clause-one_reading
returns-clause-one_reading c = only_reading

pub returns-clause-there : goal.returns-clause-there
returns-clause-there c = typed_read
