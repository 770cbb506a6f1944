use Rattle.topology.proofs.Ports.{few_lines}
use Rattle.topology.proofs.law.few_lines.Goals as goal

pub returns : goal.returns
returns c = few_lines
