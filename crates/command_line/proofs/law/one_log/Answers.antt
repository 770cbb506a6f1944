use Rattle.command_line.proofs.Joins.{one_log}
use Rattle.command_line.proofs.law.one_log.Goals as goal

pub returns : goal.returns
returns c = one_log
