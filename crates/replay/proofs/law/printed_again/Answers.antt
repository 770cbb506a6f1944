use Rattle.replay.proofs.Spelled.{again}
use Rattle.replay.proofs.law.printed_again.Goals as goal

pub returns : goal.returns
returns c = again
