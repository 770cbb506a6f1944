use Rattle.std.proofs.Common.{◌≡◌, refl}
use Rattle.bit_messages.specs.Octets.{octets_of}
use Rattle.ncp_control.specs.Packing.{packed_count}
use Rattle.ncp_control.specs.Reading.{command_of, read_of}
use Rattle.host_pairs.specs.Control.{orders_of}
use Rattle.mixed_worlds.proofs.law.worked_ends.Goals as goal

pub returns-clause-reset : goal.returns-clause-reset
unfolding octets_of orders_of read_of command_of packed_count
returns-clause-reset c = refl

pub returns-clause-followed : goal.returns-clause-followed
unfolding octets_of orders_of read_of command_of packed_count
returns-clause-followed c = ((λ called. (refl, refl)), tt)

pub returns-clause-unfollowed : goal.returns-clause-unfollowed
returns-clause-unfollowed c are = absurd (let no : 2 ≡ 0 = (are.0 refl).0 in cc)

pub returns-clause-free : goal.returns-clause-free
returns-clause-free c = ((λ called. absurd (cc)), tt)

pub returns-clause-toward : goal.returns-clause-toward
returns-clause-toward c = ((λ called. absurd (cc)), tt)
