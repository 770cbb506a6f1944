use Rattle.std.proofs.Common.{arith}
use Rattle.world_replay.proofs.Counting.{no_third, not_other, once, one_round, two_rounds}
use Rattle.world_replay.proofs.worked.worked_failures.Goals as goal

pub returns-clause-once : goal.returns-clause-once
returns-clause-once c = once

pub returns-clause-never : goal.returns-clause-never
returns-clause-never c = λ shown h. let same = not_other 3 shown h in omega (arith, same)

pub returns-clause-twice : goal.returns-clause-twice
returns-clause-twice c = λ shown h. let same = not_other 5 shown h in omega (arith, same)

pub returns-clause-calm : goal.returns-clause-calm
returns-clause-calm c = two_rounds

pub returns-clause-in_part : goal.returns-clause-in_part
returns-clause-in_part c = one_round

pub returns-clause-too_long : goal.returns-clause-too_long
returns-clause-too_long c = no_third
