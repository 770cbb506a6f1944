use Rattle.imp_node.proofs.Common.{◌≡◌, ℕ, Some, refl, flow_cmp, Fate, host, flow}
use Rattle.std.specs.FinMap as finite
use Rattle.imp_channel.specs.Line.{submitted}
use Rattle.link_table.specs.Flows.{begun, flow_answered, handed, noted}
use Rattle.link_table.specs.Numbers.{modulus, window, is_new}
use Rattle.link_table.specs.declared.destination.Fate.TheVariants as fate
use Rattle.link_table.proofs.lemmas.{get_dropped, get_put}
use Rattle.routing.specs.RouteTable.{next_of, distance_to, vector_of}
use Rattle.imp_node.proofs.law.worked_questions.Goals as goal

-- what is kept of the flow after a number of it was noted
is_noted : (n : ℕ) (new : Fate) → finite.get (noted finite.empty (flow (host 0 2) (host 0 1) 2) n new) (flow (host 0 2) (host 0 1) 2) ≡ Some (record { number = n; fate = new })
is_noted n new = get_put finite.empty (flow (host 0 2) (host 0 1) 2) (flow (host 0 2) (host 0 1) 2) (record { number = n; fate = new })

-- the same of the flow from IMP 3, and of that from IMP 5
is_noted_3 : (n : ℕ) (new : Fate) → finite.get (noted finite.empty (flow (host 0 3) (host 0 1) 5) n new) (flow (host 0 3) (host 0 1) 5) ≡ Some (record { number = n; fate = new })
is_noted_3 n new = get_put finite.empty (flow (host 0 3) (host 0 1) 5) (flow (host 0 3) (host 0 1) 5) (record { number = n; fate = new })

is_noted_5 : (n : ℕ) (new : Fate) → finite.get (noted finite.empty (flow (host 0 5) (host 0 1) 5) n new) (flow (host 0 5) (host 0 1) 5) ≡ Some (record { number = n; fate = new })
is_noted_5 n new = get_put finite.empty (flow (host 0 5) (host 0 1) 5) (flow (host 0 5) (host 0 1) 5) (record { number = n; fate = new })

pub returns-clause-taken : goal.returns-clause-taken
unfolding next_of submitted distance_to vector_of begun flow_answered handed is_new modulus window
returns-clause-taken c = rw (is_noted 5 fate.Taken) refl

pub returns-clause-dead : goal.returns-clause-dead
unfolding next_of submitted distance_to vector_of begun flow_answered handed is_new modulus window
returns-clause-dead c = rw (is_noted 5 fate.Dead) refl

pub returns-clause-never : goal.returns-clause-never
unfolding next_of submitted distance_to vector_of begun flow_answered handed is_new modulus window
returns-clause-never c = rw (is_noted 5 fate.Never) refl

pub returns-clause-waits : goal.returns-clause-waits
unfolding next_of submitted distance_to vector_of begun flow_answered handed is_new modulus window
returns-clause-waits c = rw (is_noted 5 fate.Waits) refl

pub returns-clause-other_number : goal.returns-clause-other_number
unfolding next_of submitted distance_to vector_of begun flow_answered handed is_new modulus window
returns-clause-other_number c = rw (is_noted 5 fate.Taken) refl

pub returns-clause-new_number : goal.returns-clause-new_number
unfolding next_of submitted distance_to vector_of begun flow_answered handed is_new modulus window
returns-clause-new_number c = rw (is_noted 5 fate.Taken) refl

pub returns-clause-first_number : goal.returns-clause-first_number
unfolding next_of submitted distance_to vector_of begun flow_answered handed is_new modulus window
returns-clause-first_number c = rw (finite.get-empty flow_cmp (flow (host 0 2) (host 0 1) 2)) refl

pub returns-clause-noted : goal.returns-clause-noted
unfolding next_of submitted distance_to vector_of begun flow_answered handed is_new modulus window
returns-clause-noted c = rw (is_noted 5 fate.Taken) (get_put (noted finite.empty (flow (host 0 2) (host 0 1) 2) 5 fate.Taken) (flow (host 0 2) (host 0 1) 2) (flow (host 0 2) (host 0 1) 2) (record { number = 6; fate = fate.Never }))

pub returns-clause-too_late : goal.returns-clause-too_late
unfolding next_of submitted distance_to vector_of begun flow_answered handed is_new modulus window
returns-clause-too_late c = rw (finite.get-empty flow_cmp (flow (host 0 2) (host 0 1) 2), is_noted 0 fate.Never) refl

pub returns-clause-asked_again : goal.returns-clause-asked_again
unfolding next_of submitted distance_to vector_of begun flow_answered handed is_new modulus window
returns-clause-asked_again c = rw (is_noted 6 fate.Never) refl

pub returns-clause-forgotten : goal.returns-clause-forgotten
unfolding next_of submitted distance_to vector_of begun flow_answered handed is_new modulus window
returns-clause-forgotten c = rw (get_dropped (noted finite.empty (flow (host 0 2) (host 0 1) 2) 5 fate.Taken) 2 (flow (host 0 2) (host 0 1) 2)) refl

pub returns-clause-host_is_down : goal.returns-clause-host_is_down
unfolding next_of submitted distance_to vector_of begun flow_answered handed is_new modulus window
returns-clause-host_is_down c = rw (finite.get-empty flow_cmp (flow (host 0 2) (host 0 1) 2)) refl

pub returns-clause-slot_cleared : goal.returns-clause-slot_cleared
unfolding next_of submitted distance_to vector_of begun flow_answered handed is_new modulus window
returns-clause-slot_cleared c = rw (finite.get-empty flow_cmp (flow (host 0 2) (host 0 1) 1)) refl

pub returns-clause-slot_kept : goal.returns-clause-slot_kept
unfolding next_of submitted distance_to vector_of begun flow_answered handed is_new modulus window
returns-clause-slot_kept c = rw (is_noted 5 fate.Taken) refl

pub returns-clause-no_slot : goal.returns-clause-no_slot
unfolding next_of submitted distance_to vector_of begun flow_answered handed is_new modulus window
returns-clause-no_slot c = rw (finite.get-empty flow_cmp (flow (host 0 2) (host 0 1) 2)) refl

pub returns-clause-no_room : goal.returns-clause-no_room
unfolding next_of submitted distance_to vector_of begun flow_answered handed is_new modulus window
returns-clause-no_room c = rw (finite.get-empty flow_cmp (flow (host 0 3) (host 0 1) 5)) refl

pub returns-clause-no_room_to_reply : goal.returns-clause-no_room_to_reply
unfolding next_of submitted distance_to vector_of begun flow_answered handed is_new modulus window
returns-clause-no_room_to_reply c = rw (is_noted_3 0 fate.Taken) refl

pub returns-clause-silence_has_room : goal.returns-clause-silence_has_room
unfolding next_of submitted distance_to vector_of begun flow_answered handed is_new modulus window
returns-clause-silence_has_room c = rw (is_noted_3 0 fate.Waits) refl

pub returns-clause-no_route : goal.returns-clause-no_route
unfolding next_of submitted distance_to vector_of begun flow_answered handed is_new modulus window
returns-clause-no_route c = rw (finite.get-empty flow_cmp (flow (host 0 5) (host 0 1) 5)) refl

pub returns-clause-noted_all_the_same : goal.returns-clause-noted_all_the_same
unfolding next_of submitted distance_to vector_of begun flow_answered handed is_new modulus window
returns-clause-noted_all_the_same c = rw (finite.get-empty flow_cmp (flow (host 0 5) (host 0 1) 5), is_noted_5 0 fate.Never) refl
