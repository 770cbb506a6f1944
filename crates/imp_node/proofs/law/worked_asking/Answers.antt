use Rattle.std.proofs.Common.{refl}
use Rattle.imp_channel.specs.Line.{submitted}
use Rattle.routing.specs.RouteTable.{next_of, distance_to}
use Rattle.imp_node.proofs.SentFlow.{is_begun, is_answered, is_taken, is_given_up, is_begun_within}
use Rattle.imp_node.proofs.law.worked_asking.Goals as goal

pub returns-clause-asks : goal.returns-clause-asks
unfolding next_of submitted distance_to
returns-clause-asks c = rw is_begun refl

pub returns-clause-asks_down : goal.returns-clause-asks_down
unfolding next_of submitted distance_to
returns-clause-asks_down c = rw is_begun refl

pub returns-clause-one_place : goal.returns-clause-one_place
unfolding next_of submitted distance_to
returns-clause-one_place c = rw is_begun refl

pub returns-clause-no_room : goal.returns-clause-no_room
unfolding next_of submitted distance_to
returns-clause-no_room c = rw is_begun refl

pub returns-clause-not_outstanding : goal.returns-clause-not_outstanding
unfolding next_of submitted distance_to
returns-clause-not_outstanding c = rw is_given_up refl

pub returns-clause-without_route : goal.returns-clause-without_route
unfolding next_of submitted distance_to
returns-clause-without_route c = rw is_begun refl

pub returns-clause-full_without_route : goal.returns-clause-full_without_route
unfolding next_of submitted distance_to
returns-clause-full_without_route c = rw is_begun refl

pub returns-clause-within : goal.returns-clause-within
unfolding next_of submitted distance_to
returns-clause-within c = rw is_begun_within refl

pub returns-clause-full_within : goal.returns-clause-full_within
unfolding next_of submitted distance_to
returns-clause-full_within c = rw is_begun_within refl

pub returns-clause-not_taken : goal.returns-clause-not_taken
unfolding next_of submitted distance_to
returns-clause-not_taken c = rw is_begun refl

pub returns-clause-ended : goal.returns-clause-ended
unfolding next_of submitted distance_to
returns-clause-ended c = rw (is_begun, is_answered) refl

pub returns-clause-stale : goal.returns-clause-stale
unfolding next_of submitted distance_to
returns-clause-stale c = rw is_begun refl

pub returns-clause-nobody : goal.returns-clause-nobody
unfolding next_of submitted distance_to
returns-clause-nobody c = rw is_begun refl

pub returns-clause-idle : goal.returns-clause-idle
unfolding next_of submitted distance_to
returns-clause-idle c = rw (is_begun, is_taken) refl
