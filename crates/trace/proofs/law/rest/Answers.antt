use Rattle.trace.proofs.Rest.{frame, rest_same}
use Rattle.trace.proofs.law.rest.Goals as goal

pub returns : goal.returns
returns c = record {
  parts = rest_same;
  hosts = λ old new e shown one h. (frame old new e shown one h).hosts;
}
