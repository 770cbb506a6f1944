use Rattle.subnet.proofs.Moves.WholeRuns.{always_run, always_sound}
use Rattle.subnet.proofs.law.whole_runs.Goals as goal

pub returns-clause-run : goal.returns-clause-run
returns-clause-run c = always_run

pub returns-clause-sound : goal.returns-clause-sound
returns-clause-sound c = always_sound
