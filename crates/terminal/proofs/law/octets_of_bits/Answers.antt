use Rattle.terminal.proofs.OctetLemmas.{part_few, whole_and_part, whole_octets}
use Rattle.terminal.proofs.law.octets_of_bits.Goals as goal

pub returns-clause-all : goal.returns-clause-all
returns-clause-all c = whole_and_part

pub returns-clause-few : goal.returns-clause-few
returns-clause-few c = part_few

pub returns-clause-octets : goal.returns-clause-octets
returns-clause-octets c = whole_octets
