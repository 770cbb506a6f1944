use Rattle.world_trace.proofs.Openings.PlainStates.{plain_states}
use Rattle.world_trace.proofs.Openings.SubnetStates.{subnet_states}
use Rattle.world_trace.proofs.law.states.Goals as goal

pub returns-clause-plain : goal.returns-clause-plain
returns-clause-plain c = plain_states c.whole.ensures

pub returns-clause-subnets : goal.returns-clause-subnets
returns-clause-subnets c = subnet_states c.whole-2.ensures.texts
