use Rattle.std.proofs.Common.{refl}
use Rattle.std.specs.Fmt.{digits}
use Rattle.world_replay.proofs.worked.worked_reports.Goals as goal

pub returns-clause-server : goal.returns-clause-server
unfolding digits
returns-clause-server c = refl

pub returns-clause-user : goal.returns-clause-user
unfolding digits
returns-clause-user c = refl

pub returns-clause-stranger : goal.returns-clause-stranger
unfolding digits
returns-clause-stranger c = refl

pub returns-clause-refused : goal.returns-clause-refused
unfolding digits
returns-clause-refused c = refl

pub returns-clause-local : goal.returns-clause-local
unfolding digits
returns-clause-local c = refl

pub returns-clause-line : goal.returns-clause-line
unfolding digits
returns-clause-line c = refl

pub returns-clause-empty : goal.returns-clause-empty
unfolding digits
returns-clause-empty c = refl

pub returns-clause-hidden : goal.returns-clause-hidden
unfolding digits
returns-clause-hidden c = refl
