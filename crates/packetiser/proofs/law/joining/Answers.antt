use Rattle.packetiser.proofs.Rejoining.{joined_whole, joined_places}
use Rattle.packetiser.proofs.law.joining.Goals as goal

pub returns-clause-up_to_last : goal.returns-clause-up_to_last
returns-clause-up_to_last c = joined_whole

pub returns-clause-all_places : goal.returns-clause-all_places
returns-clause-all_places c = joined_places
