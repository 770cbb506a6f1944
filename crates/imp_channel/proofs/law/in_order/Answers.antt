use Rattle.imp_channel.proofs.Runs.{rightward, leftward}
use Rattle.imp_channel.proofs.law.in_order.Goals as goal

pub returns-clause-rightward : goal.returns-clause-rightward
returns-clause-rightward c = rightward

pub returns-clause-leftward : goal.returns-clause-leftward
returns-clause-leftward c = leftward
