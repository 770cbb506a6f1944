use Rattle.simulator.proofs.Recorded.{prints_trace}
use Rattle.simulator.proofs.Traces.AmongTrace.{first_of_trace, one_trace}
use Rattle.simulator.proofs.law.one_trace.Goals as goal

pub returns : goal.returns
returns c = record {
  whole = one_trace;
  part = first_of_trace;
  printed = prints_trace;
}
