use Rattle.world_trace.proofs.Unspent.Rows.{name_refused, text_refused}
use Rattle.world_trace.proofs.worked_lasting.worked_said.Goals as goal

pub returns-clause-named : goal.returns-clause-named
returns-clause-named c = name_refused

pub returns-clause-long : goal.returns-clause-long
returns-clause-long c = text_refused
