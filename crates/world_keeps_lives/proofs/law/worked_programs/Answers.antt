use Rattle.world_keeps_lives.proofs.Rows.{row_free, row_open, row_other, row_steady, row_taken_up, row_turned, row_unowned}
use Rattle.world_keeps_lives.proofs.law.worked_programs.Goals as goal

pub returns-clause-open : goal.returns-clause-open
returns-clause-open c = row_open

pub returns-clause-other : goal.returns-clause-other
returns-clause-other c = row_other

pub returns-clause-turned : goal.returns-clause-turned
returns-clause-turned c = row_turned

pub returns-clause-free : goal.returns-clause-free
returns-clause-free c = row_free

pub returns-clause-taken_up : goal.returns-clause-taken_up
returns-clause-taken_up c = row_taken_up

pub returns-clause-unowned : goal.returns-clause-unowned
returns-clause-unowned c = row_unowned

pub returns-clause-steady : goal.returns-clause-steady
returns-clause-steady c = row_steady
