use Rattle.std.proofs.Common.{refl}
use Rattle.std.specs.Fmt.{digits}
use Rattle.command_line.proofs.law.worked_places.Goals as goal

pub returns-clause-said : goal.returns-clause-said
unfolding digits
returns-clause-said c = refl

pub returns-clause-toward : goal.returns-clause-toward
unfolding digits
returns-clause-toward c = refl

pub returns-clause-life : goal.returns-clause-life
unfolding digits
returns-clause-life c = refl

pub returns-clause-list : goal.returns-clause-list
unfolding digits
returns-clause-list c = refl
