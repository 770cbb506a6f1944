use Rattle.bit_messages.proofs.OctetLemmas.{octets_again, bits_again, octets_of-append, octets_below}
use Rattle.bit_messages.proofs.law.octets.Goals as goal

pub returns-clause-again : goal.returns-clause-again
returns-clause-again c = octets_again

pub returns-clause-filled : goal.returns-clause-filled
returns-clause-filled c = bits_again

pub returns-clause-joined : goal.returns-clause-joined
returns-clause-joined c = octets_of-append

pub returns-clause-octet_range : goal.returns-clause-octet_range
returns-clause-octet_range c = octets_below
