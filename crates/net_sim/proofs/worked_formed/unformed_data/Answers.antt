use Rattle.net_sim.proofs.Books.Unformed as unformed
use Rattle.net_sim.proofs.worked_formed.unformed_data.Goals as goal

pub returns-clause-before_own : goal.returns-clause-before_own
returns-clause-before_own c = unformed.before_own

pub returns-clause-before_partner : goal.returns-clause-before_partner
returns-clause-before_partner c = unformed.before_partner

pub returns-clause-count : goal.returns-clause-count
returns-clause-count c = unformed.count

pub returns-clause-taken_bits : goal.returns-clause-taken_bits
returns-clause-taken_bits c = unformed.taken_bits

pub returns-clause-given_bits : goal.returns-clause-given_bits
returns-clause-given_bits c = unformed.given_bits

pub returns-clause-taken_from : goal.returns-clause-taken_from
returns-clause-taken_from c = unformed.taken_from

pub returns-clause-taken_to : goal.returns-clause-taken_to
returns-clause-taken_to c = unformed.taken_to

pub returns-clause-given_to : goal.returns-clause-given_to
returns-clause-given_to c = unformed.given_to

pub returns-clause-way : goal.returns-clause-way
returns-clause-way c = unformed.way

pub returns-clause-second_named : goal.returns-clause-second_named
returns-clause-second_named c = unformed.second_named
