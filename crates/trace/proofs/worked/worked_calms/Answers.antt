use Rattle.trace.proofs.Rounds.Two.{message, quiet}
use Rattle.trace.proofs.worked.worked_calms.Goals as goal

pub returns-clause-quiet : goal.returns-clause-quiet
returns-clause-quiet c = quiet

pub returns-clause-message : goal.returns-clause-message
returns-clause-message c = message
