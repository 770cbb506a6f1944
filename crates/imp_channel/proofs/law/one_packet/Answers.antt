use Rattle.std.proofs.Common.{refl}
use Rattle.imp_channel.specs.Line.{submitted}
use Rattle.imp_channel.proofs.law.one_packet.Goals as goal

pub returns-clause-put : goal.returns-clause-put
unfolding submitted
returns-clause-put c = λ packet. refl

pub returns-clause-given : goal.returns-clause-given
unfolding submitted
returns-clause-given c = λ packet. refl

pub returns-clause-freed : goal.returns-clause-freed
unfolding submitted
returns-clause-freed c = λ packet. refl

pub returns-clause-reached : goal.returns-clause-reached
unfolding submitted
returns-clause-reached c = λ packet. refl
