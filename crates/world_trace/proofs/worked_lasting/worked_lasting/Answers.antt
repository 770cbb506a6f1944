use Rattle.world_trace.proofs.Unspent.Rows.{other_refused, services_refused, spent_refused}
use Rattle.world_trace.proofs.worked_lasting.worked_lasting.Goals as goal

pub returns-clause-other : goal.returns-clause-other
returns-clause-other c = other_refused

pub returns-clause-spent : goal.returns-clause-spent
returns-clause-spent c = spent_refused

pub returns-clause-services : goal.returns-clause-services
returns-clause-services c = services_refused
