use Rattle.world_trace.proofs.Carriers.{plain_carriers, subnet_carriers}
use Rattle.world_trace.proofs.law.carriers.Goals as goal

pub returns : goal.returns
returns c = record { plain = plain_carriers; subnets = subnet_carriers }
