use Rattle.std.proofs.Common.{◌∙◌}
use Rattle.command_line.proofs.Sites.{same_hosts}
use Rattle.command_line.proofs.carriers.subnet_of.Goals as goal

pub new-requires-clause-listed : goal.new-requires-clause-listed
new-requires-clause-listed c = c.in_ok-hosts.ensures.all ∙ c.in_ok-sites.ensures.listed ∙ same_hosts 0 c.in_ok-sites.sites.items
