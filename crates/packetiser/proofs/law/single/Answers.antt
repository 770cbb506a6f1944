use Rattle.packetiser.proofs.Holding.{none_taken, single_old}
use Rattle.packetiser.proofs.law.single.Goals as goal

pub returns-clause-none_taken : goal.returns-clause-none_taken
returns-clause-none_taken c = none_taken

pub returns-clause-old : goal.returns-clause-old
returns-clause-old c = single_old
