use Rattle.ncp_control.proofs.Counters.{within_granted}
use Rattle.ncp_control.proofs.law.allocation.Goals as goal

pub returns : goal.returns
returns c = within_granted
