use Rattle.std.proofs.Common.{refl}
use Rattle.imp_channel.specs.Line.{submitted}
use Rattle.routing.specs.RouteTable.{next_of, distance_to}
use Rattle.imp_node.proofs.SentFlow.{is_begun}
use Rattle.imp_node.proofs.law.worked_memory.Goals as goal

pub returns-clause-ask : goal.returns-clause-ask
unfolding next_of submitted distance_to
returns-clause-ask c = rw is_begun refl
