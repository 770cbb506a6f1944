use Rattle.std.proofs.Common.{refl}
use Rattle.imp_channel.specs.Line.{submitted}
use Rattle.routing.specs.RouteTable.{next_of, distance_to}
use Rattle.imp_node.proofs.SentFlow.{is_begun, is_answered, is_taken, is_given_up, is_idle_again}
use Rattle.imp_node.proofs.law.worked_flows.Goals as goal

pub returns-clause-begun : goal.returns-clause-begun
unfolding next_of submitted distance_to
returns-clause-begun c = rw is_begun refl

pub returns-clause-blocked : goal.returns-clause-blocked
unfolding next_of submitted distance_to
returns-clause-blocked c = rw is_begun refl

pub returns-clause-rfnm : goal.returns-clause-rfnm
unfolding next_of submitted distance_to
returns-clause-rfnm c = rw is_begun refl

pub returns-clause-ended : goal.returns-clause-ended
unfolding next_of submitted distance_to
returns-clause-ended c = rw (is_begun, is_answered) refl

pub returns-clause-waits : goal.returns-clause-waits
unfolding next_of submitted distance_to
returns-clause-waits c = rw (is_begun, is_answered) refl

pub returns-clause-again : goal.returns-clause-again
unfolding next_of submitted distance_to
returns-clause-again c = rw (is_begun, is_taken) refl

pub returns-clause-stale : goal.returns-clause-stale
unfolding next_of submitted distance_to
returns-clause-stale c = rw is_begun refl

pub returns-clause-still : goal.returns-clause-still
unfolding next_of submitted distance_to
returns-clause-still c = rw is_begun (rw is_begun refl)

pub returns-clause-once : goal.returns-clause-once
unfolding next_of submitted distance_to
returns-clause-once c = rw is_given_up refl

pub returns-clause-idle : goal.returns-clause-idle
unfolding next_of submitted distance_to
returns-clause-idle c = rw is_idle_again refl
