use Rattle.std.proofs.Common.{◌≡◌, true, false, refl}
use Rattle.host_keeps_streams.proofs.law.worked_ends.Goals as goal

pub returns-clause-stray : goal.returns-clause-stray
returns-clause-stray c none = let both : false ≡ true = none 33 refl refl in absurd (cc)
