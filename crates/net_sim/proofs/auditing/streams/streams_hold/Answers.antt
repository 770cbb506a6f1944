use Rattle.std.proofs.Common.{◌∙◌, reverse}
use Rattle.net_sim.proofs.Audits.Searches.{told_none}
use Rattle.net_sim.proofs.Audits.Streams.{none_apart, none_unfed}
use Rattle.net_sim.proofs.auditing.streams.streams_hold.Goals as goal

pub returns-then-lives-handed : goal.returns-then-lives-handed
returns-then-lives-handed c =
    told_none c.unfed_at.result c.is_none.result c.is_none.ensures
    ∙ none_unfed (reverse c.args.log.now) c.args.lives.now c.args.handed.now c.unfed_at.result c.if-lives-handed.true c.unfed_at.ensures

pub returns-else-lives-handed : goal.returns-else-lives-handed
returns-else-lives-handed c = none_apart (reverse c.args.log.now) c.args.lives.now c.args.handed.now c.if-lives-handed.false
