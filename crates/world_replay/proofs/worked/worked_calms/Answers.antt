use Rattle.world_replay.proofs.Counting.{quiet_once, quiet_twice, refusal_unshown, take_refused}
use Rattle.world_replay.proofs.worked.worked_calms.Goals as goal

pub returns-clause-quiet : goal.returns-clause-quiet
returns-clause-quiet c = quiet_once

pub returns-clause-twice : goal.returns-clause-twice
returns-clause-twice c = quiet_twice

pub returns-clause-refused : goal.returns-clause-refused
returns-clause-refused c = take_refused

pub returns-clause-silent : goal.returns-clause-silent
returns-clause-silent c = refusal_unshown
