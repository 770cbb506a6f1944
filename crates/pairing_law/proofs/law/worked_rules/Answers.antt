use Rattle.std.proofs.Common.{refl}
use Rattle.pairing_law.proofs.law.worked_rules.Goals as goal

pub returns-clause-own : goal.returns-clause-own
returns-clause-own c once = once.0.1.0 refl

pub returns-clause-partner : goal.returns-clause-partner
returns-clause-partner c once = once.0.1.0 refl
