use Rattle.std.proofs.Common.{◌≡◌, true, false}
use Rattle.net_sim.proofs.worked.worked_fates.Goals as goal

pub returns-clause-unfated : goal.returns-clause-unfated
returns-clause-unfated c u = absurd (let no : true ≡ false = u.1.0 in cc)

pub returns-clause-missing : goal.returns-clause-missing
returns-clause-missing c u = u.1
