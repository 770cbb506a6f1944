use Rattle.std.proofs.Common.{refl}
use Rattle.std.specs.Fmt.{digits}
use Rattle.world_replay.proofs.worked.worked_lines.Goals as goal

pub returns-clause-ready : goal.returns-clause-ready
unfolding digits
returns-clause-ready c = refl

pub returns-clause-failed : goal.returns-clause-failed
unfolding digits
returns-clause-failed c = refl

pub returns-clause-reset : goal.returns-clause-reset
unfolding digits
returns-clause-reset c = refl

pub returns-clause-echoed : goal.returns-clause-echoed
unfolding digits
returns-clause-echoed c = refl

pub returns-clause-error : goal.returns-clause-error
unfolding digits
returns-clause-error c = refl

pub returns-clause-opened : goal.returns-clause-opened
unfolding digits
returns-clause-opened c = refl

pub returns-clause-ended : goal.returns-clause-ended
unfolding digits
returns-clause-ended c = refl

pub returns-clause-interrupt : goal.returns-clause-interrupt
unfolding digits
returns-clause-interrupt c = refl

pub returns-clause-sent : goal.returns-clause-sent
unfolding digits
returns-clause-sent c = refl

pub returns-clause-arrived : goal.returns-clause-arrived
unfolding digits
returns-clause-arrived c = refl

pub returns-clause-returned : goal.returns-clause-returned
unfolding digits
returns-clause-returned c = refl
