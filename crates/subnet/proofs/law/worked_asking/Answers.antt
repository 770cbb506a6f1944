use Rattle.subnet.proofs.Common.{refl, get-empty, flow_cmp, ours}
use Rattle.imp_channel.specs.Line.{submitted}
use Rattle.routing.specs.RouteTable.{next_of, distance_to, vector_of}
use Rattle.subnet.proofs.Calls.Awaiting.{is_begun}
use Rattle.subnet.proofs.law.worked_asking.Goals as goal

pub returns-clause-goes : goal.returns-clause-goes
unfolding next_of submitted distance_to vector_of
returns-clause-goes c = rw is_begun refl

pub returns-clause-unrouted : goal.returns-clause-unrouted
unfolding next_of submitted distance_to vector_of
returns-clause-unrouted c = rw is_begun refl

pub returns-clause-none : goal.returns-clause-none
unfolding next_of submitted distance_to vector_of
returns-clause-none c = rw (get-empty flow_cmp ours) refl

pub returns-clause-full : goal.returns-clause-full
unfolding next_of submitted distance_to vector_of
returns-clause-full c = rw is_begun refl

pub returns-clause-source_down : goal.returns-clause-source_down
unfolding next_of submitted distance_to vector_of
returns-clause-source_down c = rw is_begun refl

pub returns-clause-dropped : goal.returns-clause-dropped
unfolding next_of submitted distance_to vector_of
returns-clause-dropped c = rw is_begun refl

pub returns-clause-asked_again : goal.returns-clause-asked_again
unfolding next_of submitted distance_to vector_of
returns-clause-asked_again c = rw is_begun refl

pub returns-clause-memory : goal.returns-clause-memory
unfolding next_of submitted distance_to vector_of
returns-clause-memory c = (refl, rw is_begun refl)
