use Rattle.trace.proofs.Calms.{all_one_call, elementary}
use Rattle.trace.proofs.law.elementary.Goals as goal

pub returns-clause-course : goal.returns-clause-course
returns-clause-course c = elementary

pub returns-clause-one_call : goal.returns-clause-one_call
returns-clause-one_call c = all_one_call
