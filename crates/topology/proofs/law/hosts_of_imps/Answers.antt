use Rattle.topology.proofs.Hosts.{hosts_of_imps}
use Rattle.topology.proofs.law.hosts_of_imps.Goals as goal

pub returns : goal.returns
returns c = hosts_of_imps
