use Rattle.trace.proofs.FirstLine.{network}
use Rattle.trace.proofs.law.network.Goals as goal

pub returns : goal.returns
returns c = record { one = network }
