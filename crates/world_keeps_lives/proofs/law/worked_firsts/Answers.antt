use Rattle.world_keeps_lives.proofs.Firsts.Rows.{row_left_out, row_sent, row_twice}
use Rattle.world_keeps_lives.proofs.law.worked_firsts.Goals as goal

pub returns-clause-sent : goal.returns-clause-sent
returns-clause-sent c = row_sent

pub returns-clause-left_out : goal.returns-clause-left_out
returns-clause-left_out c = row_left_out

pub returns-clause-twice : goal.returns-clause-twice
returns-clause-twice c = row_twice
