use Rattle.std.proofs.Common.{refl, arith}
use Rattle.std.specs.Prelude.{◌≤◌}
use Rattle.bit_messages.specs.Octets.{octets_of}
use Rattle.host_pairs.specs.Control.{orders_of}
use Rattle.ncp_control.specs.Reading.{command_of, read_of}
use Rattle.ncp_control.specs.Packing.{packed_count}
use Rattle.mixed_worlds.proofs.law.worked_within.Goals as goal

pub returns-clause-beside : goal.returns-clause-beside
unfolding octets_of orders_of read_of command_of packed_count
returns-clause-beside c = refl

pub returns-clause-sum : goal.returns-clause-sum
unfolding octets_of orders_of read_of command_of packed_count
returns-clause-sum c = refl

pub returns-clause-other : goal.returns-clause-other
unfolding octets_of orders_of read_of command_of packed_count
returns-clause-other c = refl

pub returns-clause-early : goal.returns-clause-early
unfolding octets_of orders_of read_of command_of packed_count
returns-clause-early c = refl

pub returns-clause-unasked : goal.returns-clause-unasked
unfolding octets_of orders_of read_of command_of packed_count
returns-clause-unasked c = refl

pub returns-clause-peer : goal.returns-clause-peer
unfolding octets_of orders_of read_of command_of packed_count
returns-clause-peer c = refl

pub returns-clause-going : goal.returns-clause-going
unfolding octets_of orders_of read_of command_of packed_count
returns-clause-going c = refl

pub returns-clause-sent : goal.returns-clause-sent
unfolding octets_of orders_of read_of command_of packed_count
returns-clause-sent c = refl

pub returns-clause-data : goal.returns-clause-data
unfolding octets_of orders_of read_of command_of packed_count
returns-clause-data c = refl

pub returns-clause-within : goal.returns-clause-within
unfolding octets_of orders_of read_of command_of packed_count
returns-clause-within c = record { messages = omega arith; bits = omega arith }

pub returns-clause-messages : goal.returns-clause-messages
unfolding octets_of orders_of read_of command_of packed_count
returns-clause-messages c h = let more : 3 ≤ 2 = h.messages in absurd (omega (arith, more))

pub returns-clause-bits : goal.returns-clause-bits
unfolding octets_of orders_of read_of command_of packed_count
returns-clause-bits c h = let more : 17 ≤ 16 = h.bits in absurd (omega (arith, more))
