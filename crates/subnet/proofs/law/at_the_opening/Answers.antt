use Rattle.subnet.proofs.Moves.Openings.{opening_sound, opening_empty}
use Rattle.subnet.proofs.Calls.SiteHosts.{hosts_fit, hosts_ordered}
use Rattle.subnet.proofs.law.at_the_opening.Goals as goal

pub returns-clause-sound : goal.returns-clause-sound
returns-clause-sound c = opening_sound

pub returns-clause-empty : goal.returns-clause-empty
returns-clause-empty c = opening_empty

pub returns-clause-hosts : goal.returns-clause-hosts
returns-clause-hosts c = hosts_fit

pub returns-clause-ordered : goal.returns-clause-ordered
returns-clause-ordered c = hosts_ordered
