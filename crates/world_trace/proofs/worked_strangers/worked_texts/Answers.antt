use Rattle.std.proofs.Common.{refl}
use Rattle.std.specs.Fmt.{digits}
use Rattle.hex.specs.Hex.{encode_with}
use Rattle.bit_messages.specs.Octets.{octets_of}
use Rattle.world_trace.proofs.worked_strangers.worked_texts.Goals as goal

pub returns-clause-said : goal.returns-clause-said
unfolding digits encode_with octets_of
returns-clause-said c = refl

pub returns-clause-taken : goal.returns-clause-taken
unfolding digits
returns-clause-taken c = refl

pub returns-clause-named : goal.returns-clause-named
unfolding digits
returns-clause-named c = refl
