use Rattle.topology.proofs.Sites.{sites_kept}
use Rattle.topology.proofs.law.sites.Goals as goal

pub returns : goal.returns
returns c = sites_kept
