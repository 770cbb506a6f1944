use Rattle.subnet_trace.proofs.Reached.{network, reached, replays}
use Rattle.subnet_trace.proofs.Whole.{whole}
use Rattle.subnet_trace.proofs.law.whole.Goals as goal

pub returns : goal.returns
returns c = record { texts = whole; reached = reached; network = network; replays = replays }
