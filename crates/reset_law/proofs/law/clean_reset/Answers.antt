use Rattle.reset_law.proofs.Runs.{sound_run, alone_run, down_pair}
use Rattle.reset_law.proofs.Fresh.{clean_run}
use Rattle.reset_law.proofs.law.clean_reset.Goals as goal

pub returns : goal.returns
returns c = record {
  clean = clean_run;
  signals = λ hosts events r a b ours. (alone_run hosts events r a b ours).on_zero;
  alone = λ hosts events r a b ours link signal. (alone_run hosts events r a b ours).empty signal link;
  stopped = down_pair;
  sound = sound_run;
}
