use Rattle.stream_law.proofs.Came.{came_in}
use Rattle.stream_law.specs.Streams.{stream}
use Rattle.stream_law.proofs.Exact.{agreed_run}
use Rattle.stream_law.proofs.Runs.{inv_run, safe_run, fresh_run, accepted_run}
use Rattle.stream_law.proofs.law.streams.Goals as goal

pub returns : goal.returns
returns c = record {
  safe = safe_run;
  fresh = λ events k run. fresh_run (stream events) (inv_run events run.1) run.0.0.0;
  accepted = λ events k z bits run end closed over. accepted_run (stream events) (inv_run events run.1) k z bits run.0.1 end closed over;
  caught_up = λ events k run end closed over. (inv_run events run).arrivals.whole k end closed over;
  came = came_in;
  agreed = agreed_run;
}
