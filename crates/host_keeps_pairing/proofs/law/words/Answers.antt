use Rattle.host_keeps_pairing.proofs.Fronts.{heard_older, untagged_is}
use Rattle.host_keeps_pairing.proofs.law.words.Goals as goal

pub returns-clause-parted : goal.returns-clause-parted
returns-clause-parted c = untagged_is

pub returns-clause-front : goal.returns-clause-front
returns-clause-front c = heard_older
