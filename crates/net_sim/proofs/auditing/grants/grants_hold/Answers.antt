use Rattle.std.proofs.Common.{◌∙◌, reverse}
use Rattle.net_sim.specs.Inside.Audit.{has_granted}
use Rattle.net_sim.proofs.Audits.Searches.{none_of_list, told_none}
use Rattle.net_sim.proofs.auditing.grants.grants_hold.Goals as goal

pub returns : goal.returns
returns c = told_none c.excess_at.result c.is_none.result c.is_none.ensures ∙ none_of_list (has_granted (reverse c.args.log.now) c.args.lives.now) c.args.lives.now c.excess_at.result c.excess_at.ensures
