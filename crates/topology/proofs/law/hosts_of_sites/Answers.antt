use Rattle.topology.proofs.Sites.{hosts_listed}
use Rattle.topology.proofs.law.hosts_of_sites.Goals as goal

pub returns : goal.returns
returns c = hosts_listed
