use Rattle.stream_law.specs.Streams.{stream}
use Rattle.stream_law.proofs.Keeps.{waits_of, link_free}
use Rattle.stream_law.proofs.Runs.{inv_run, returned_run, granted_run, asked_back_run}
use Rattle.stream_law.proofs.law.owners.Goals as goal

pub returns : goal.returns
returns c = record {
  «data» = λ events k z y bits told run e. waits_of (stream events) (inv_run events run.1) k z bits e;
  returned = λ events k m n run. returned_run (stream events) (inv_run events run.1) k m n run.0.1.0 run.0.1.1;
  granted = λ events k m n run. granted_run (stream events) (inv_run events run.1) k m n run.0.1.0 run.0.1.1;
  asked_back = λ events k m n run. asked_back_run (stream events) (inv_run events run.1) k m n run.0.1.0 run.0.1.1;
  asked = λ events k run. link_free (stream events) k run.0.1.0 (inv_run events run.1) run.0.1.1;
}
