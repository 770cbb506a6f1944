use Rattle.subnet_trace.proofs.Rest.{network, opening, placed, rest}
use Rattle.subnet_trace.proofs.law.rest.Goals as goal

pub returns : goal.returns
returns c = record { parts = rest; network = network; placed = placed; opening = opening }
