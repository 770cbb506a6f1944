use Rattle.book_judge.proofs.Worked.{run_out, run_down, not_up, not_taken, not_answered}
use Rattle.book_judge.proofs.law.worked_runs.Goals as goal

pub returns-clause-out : goal.returns-clause-out
returns-clause-out c = run_out

pub returns-clause-down : goal.returns-clause-down
returns-clause-down c = run_down

pub returns-clause-up : goal.returns-clause-up
returns-clause-up c = not_up

pub returns-clause-taken : goal.returns-clause-taken
returns-clause-taken c = not_taken

pub returns-clause-answer : goal.returns-clause-answer
returns-clause-answer c = not_answered
