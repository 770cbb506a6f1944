use Rattle.command_line.proofs.Verdicts.Among.{pass_less, pass_none, pass_some}
use Rattle.std.proofs.Common.{rules}
use Rattle.command_line.proofs.layout.pass_one.Goals as goal

pub returns-then-not-counts : goal.returns-then-not-counts
returns-then-not-counts c = pass_some c.args.counts c.args.left (search rules)

pub returns-then-left-eq0 : goal.returns-then-left-eq0
returns-then-left-eq0 c = pass_none c.args.counts c.args.left (search rules) (search rules)

pub returns : goal.returns
returns c = pass_less c.args.counts c.args.left (search rules) (search rules)
