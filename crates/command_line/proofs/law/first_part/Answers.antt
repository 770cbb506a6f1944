use Rattle.command_line.proofs.Once.{first_part}
use Rattle.command_line.proofs.law.first_part.Goals as goal

pub returns : goal.returns
returns c = record { part = first_part }
