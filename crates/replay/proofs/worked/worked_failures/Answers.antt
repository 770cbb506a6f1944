use Rattle.replay.proofs.Counting.{first_round, no_third_round}
use Rattle.replay.proofs.worked.worked_failures.Goals as goal

pub returns-clause-rounds : goal.returns-clause-rounds
returns-clause-rounds c = first_round

pub returns-clause-more : goal.returns-clause-more
returns-clause-more c = no_third_round
