use Rattle.std.proofs.Common.{refl}
use Rattle.std.specs.Fmt.{digits}
use Rattle.world_trace.proofs.worked.worked_lines.Goals as goal

pub returns-clause-typed : goal.returns-clause-typed
unfolding digits
returns-clause-typed c = refl

pub returns-clause-offered : goal.returns-clause-offered
unfolding digits
returns-clause-offered c = refl
