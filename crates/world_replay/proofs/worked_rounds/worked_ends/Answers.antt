use Rattle.world_replay.proofs.Common.{arith, inl, refl, Quiet, tally}
use Rattle.world_replay.proofs.Ticking.{fails_at_once, in_a_taking, in_an_offer, not_whole, second, skipped, too_many}
use Rattle.world_replay.proofs.worked_rounds.worked_ends.Goals as goal

pub returns-clause-first : goal.returns-clause-first
returns-clause-first c = inl (refl, refl)

pub returns-clause-second : goal.returns-clause-second
returns-clause-second c = second

pub returns-clause-silent : goal.returns-clause-silent
returns-clause-silent c = λ h. let none = fails_at_once Quiet 16 (tally 2) _ h in absurd (cc)

pub returns-clause-too_many : goal.returns-clause-too_many
returns-clause-too_many c = λ h. let none = too_many (tally 1) _ h in absurd (cc)

pub returns-clause-in_a_taking : goal.returns-clause-in_a_taking
returns-clause-in_a_taking c = in_a_taking

pub returns-clause-in_an_offer : goal.returns-clause-in_an_offer
returns-clause-in_an_offer c = in_an_offer

pub returns-clause-skipped : goal.returns-clause-skipped
returns-clause-skipped c = skipped (tally 2)

pub returns-clause-whole : goal.returns-clause-whole
returns-clause-whole c = λ h. let less = not_whole (tally 2) _ h in omega (arith, less)
