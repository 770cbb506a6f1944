use Rattle.command_line.proofs.Once.{one_output}
use Rattle.command_line.proofs.law.one_output.Goals as goal

pub returns : goal.returns
returns c = record { same = one_output }
