use Rattle.std.proofs.Common.{◌∙◌, reverse}
use Rattle.net_sim.specs.Inside.Audit.{is_stamped}
use Rattle.net_sim.proofs.Audits.Searches.{none_of_list, told_none}
use Rattle.net_sim.proofs.auditing.stamps.are_stamped.Goals as goal

pub returns : goal.returns
returns c = told_none c.unstamped_at.result c.is_none.result c.is_none.ensures ∙ none_of_list (is_stamped (reverse c.args.log.now)) c.args.lives.now c.unstamped_at.result c.unstamped_at.ensures
