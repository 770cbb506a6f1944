use Rattle.interface.proofs.WorkedBoxes.{rfnm_run, late_run, dead_run, early_run, not_taken_run, restarted}
use Rattle.interface.proofs.law.worked_runs.Goals as goal

pub returns : goal.returns
returns c = record {
  taken = λ hosts m from to. (rfnm_run hosts m from to, late_run hosts m from to);
  waiting = λ hosts m from. (dead_run hosts m from, early_run hosts m from);
  not_taken = not_taken_run;
  restarted = restarted;
}
