use Rattle.flow_law.proofs.ExampleLemmas.{worked_history}
use Rattle.flow_law.proofs.law.worked_run.Goals as goal

pub returns-clause-history : goal.returns-clause-history
returns-clause-history c = worked_history
