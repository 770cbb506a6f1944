use Rattle.std.proofs.Common.{◌∙◌, reverse}
use Rattle.net_sim.proofs.Audits.Partners.{none_two}
use Rattle.net_sim.proofs.Audits.Searches.{told_none}
use Rattle.net_sim.proofs.auditing.partners.partners_hold.Goals as goal

pub returns : goal.returns
returns c = told_none c.odds_at.result c.is_none.result c.is_none.ensures ∙ none_two (reverse c.args.log.now) c.args.lives.now c.odds_at.result c.odds_at.ensures
