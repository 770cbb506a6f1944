use Rattle.std.proofs.Common.{◌∙◌}
use Rattle.net_sim.proofs.Audits.Messages.{none_broken}
use Rattle.net_sim.proofs.Audits.Searches.{told_none}
use Rattle.net_sim.proofs.auditing.messages.messages_hold.Goals as goal

pub returns : goal.returns
returns c = told_none c.break_at.result c.is_none.result c.is_none.ensures ∙ none_broken c.args.log.now c.break_at.result c.break_at.ensures
