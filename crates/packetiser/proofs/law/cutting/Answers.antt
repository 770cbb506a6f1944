use Rattle.packetiser.proofs.Rejoining.{packets_are, packets_whole, packets_joined}
use Rattle.packetiser.proofs.law.cutting.Goals as goal

pub returns-clause-pieces : goal.returns-clause-pieces
returns-clause-pieces c = packets_are

pub returns-clause-whole : goal.returns-clause-whole
returns-clause-whole c = packets_whole

pub returns-clause-rejoined : goal.returns-clause-rejoined
returns-clause-rejoined c = packets_joined
