use Rattle.std.proofs.Common.{sym, ◌∙◌}
use Rattle.subnet_trace.proofs.Stages.{line_over, other_next}
use Rattle.subnet_trace.proofs.calm.after_turn.Goals as goal

pub returns-in-Some : goal.returns-in-Some
returns-in-Some c = other_next c.args.subnet.now.net c.args.line c.args.direction c.in-Some.next (sym c.begin_other_turn.ensures ∙ c.in-Some.is)

pub returns : goal.returns
returns c = line_over c.args.subnet.now.net c.args.line c.args.direction c.from_line.result (sym c.begin_other_turn.ensures ∙ c.in_default.is) c.from_line.ensures
