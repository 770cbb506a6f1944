use Rattle.std.proofs.Common.{refl}
use Rattle.std.specs.Fmt.{digits}
use Rattle.world_replay.proofs.worked.worked_lives.Goals as goal

pub returns-clause-receiver : goal.returns-clause-receiver
unfolding digits
returns-clause-receiver c = refl

pub returns-clause-sender : goal.returns-clause-sender
unfolding digits
returns-clause-sender c = refl

pub returns-clause-over : goal.returns-clause-over
unfolding digits
returns-clause-over c = refl

pub returns-clause-both : goal.returns-clause-both
unfolding digits
returns-clause-both c = refl
