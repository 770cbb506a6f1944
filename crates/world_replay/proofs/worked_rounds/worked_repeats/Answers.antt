use Rattle.world_replay.proofs.Common.{arith, tally}
use Rattle.world_replay.proofs.Counting.{again_once, again_twice}
use Rattle.world_replay.proofs.Ticking.{only_twice, only_until, twice, until}
use Rattle.world_replay.proofs.worked_rounds.worked_repeats.Goals as goal

pub returns-clause-until : goal.returns-clause-until
returns-clause-until c = until

pub returns-clause-too_early : goal.returns-clause-too_early
returns-clause-too_early c = λ h. let same = only_until (tally 2) _ h in omega (arith, same)

pub returns-clause-too_late : goal.returns-clause-too_late
returns-clause-too_late c = λ h. let same = only_until (tally 2) _ h in omega (arith, same)

pub returns-clause-twice : goal.returns-clause-twice
returns-clause-twice c = twice

pub returns-clause-three_times : goal.returns-clause-three_times
returns-clause-three_times c = λ h. let same = only_twice (tally 2) _ h in omega (arith, same)

pub returns-clause-once : goal.returns-clause-once
returns-clause-once c = again_once

pub returns-clause-again : goal.returns-clause-again
returns-clause-again c = again_twice
