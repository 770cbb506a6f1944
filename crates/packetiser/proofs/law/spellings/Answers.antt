use Rattle.std.proofs.Common.{sym, ap, ◌∙◌}
use Rattle.packetiser.specs.Format.{read_of}
use Rattle.packetiser.proofs.Packets.{read_again, read_is, same_read}
use Rattle.packetiser.proofs.law.spellings.Goals as goal

pub returns-clause-again : goal.returns-clause-again
returns-clause-again c = read_again

pub returns-clause-read : goal.returns-clause-read
returns-clause-read c = read_is

pub returns-clause-one : goal.returns-clause-one
returns-clause-one c = λ p q hp hq same. same_read p q (sym (read_again p hp) ∙ ap read_of same ∙ read_again q hq)
