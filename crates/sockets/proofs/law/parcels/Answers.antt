use Rattle.std.proofs.Common.{refl}
use Rattle.host_pairs.proofs.lemmas.{what_goes}
use Rattle.sockets.proofs.ParcelLemmas.{next_is}
use Rattle.sockets.proofs.law.parcels.Goals as goal

pub returns-clause-goes : goal.returns-clause-goes
returns-clause-goes c q parcel e = what_goes q parcel e

pub returns-clause-next : goal.returns-clause-next
returns-clause-next c p parcel peers e = next_is p parcel peers e

pub returns-clause-reset : goal.returns-clause-reset
returns-clause-reset c own p = refl

pub returns-clause-reply : goal.returns-clause-reply
returns-clause-reply c own p = refl
