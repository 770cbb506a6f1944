use Rattle.flow_law.proofs.Common.{refl, Contains}
use Rattle.flow_law.proofs.LocalLemmas.{queued_awaited, queued_alone, take_here, stop_here, stop_itself_queued, stop_itself, start_itself}
use Rattle.flow_law.proofs.StepLemmas.{down_shown, up_shown}
use Rattle.flow_law.proofs.law.one_imp.Goals as goal

pub returns : goal.returns
returns c = record {
  awaited = λ test v alive oldest others h up waits. queued_awaited v (Contains alive) oldest others h up waits;
  alone = λ test v alive oldest others h waits. queued_alone v (Contains alive) oldest others h waits;
  taken = λ test v alive. take_here v (Contains alive);
  taken_shows = λ v oldest others. refl;
  host_down = down_shown;
  host_up = up_shown;
  stopped = λ test v alive. stop_here v (Contains alive);
  itself_stopped_queued = λ test v alive. stop_itself_queued v (Contains alive);
  queued_shows = λ source v message. refl;
  itself_stopped = λ test v alive. stop_itself v (Contains alive);
  itself_started = λ test v alive. start_itself v (Contains alive);
}
