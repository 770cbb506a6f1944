use Rattle.world_replay.proofs.Common.{ap, arith, length, tally}
use Rattle.world_replay.proofs.Ticking.{only_round, round}
use Rattle.world_replay.proofs.worked_rounds.worked_rounds.Goals as goal

pub returns-clause-round : goal.returns-clause-round
returns-clause-round c = round

pub returns-clause-no_offer : goal.returns-clause-no_offer
returns-clause-no_offer c = λ h. let same = ap length (only_round (tally 2) _ h) in omega (arith, same)

pub returns-clause-offer_first : goal.returns-clause-offer_first
returns-clause-offer_first c = λ h. let same = only_round (tally 2) _ h in absurd (cc)
