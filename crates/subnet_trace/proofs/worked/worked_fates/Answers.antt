use Rattle.subnet_trace.proofs.Common.{◌≡◌, Option, Some, ap, refl, ◌∙◌, flow_cmp, Fate, Noted, Standing}
use Rattle.std.specs.FinMap.{empty, get, get-empty, insert}
use Rattle.link_table.specs.Flows.{number_in, begun}
use Rattle.link_table.proofs.lemmas.{get_begun, get_put}
use Rattle.subnet.specs.Examples.{ours}
use Rattle.link_table.specs.declared.destination.Fate.TheVariants as fate
use Rattle.link_table.specs.declared.source.Standing.TheVariants as standing
use Rattle.link_table.specs.Numbers.{is_new, oldest, modulus, window}
use Rattle.routing.specs.RouteTable.{next_of, distance_to, vector_of}
use Rattle.subnet_trace.proofs.worked.worked_fates.Goals as goal

-- number 0 of our flow is noted with a fate, and outstanding
abbrev ours_noted : Fate → Noted
ours_noted new = record { number = 0; fate = new }

is_noted : (new : Fate) → get {R = flow_cmp} (insert empty ours (ours_noted new)) ours ≡ Some (ours_noted new)
is_noted new = get_put empty ours ours (ours_noted new)

is_begun : get (begun empty ours) ours ≡ Some (standing.Outstanding 0)
is_begun = get_begun empty ours ours ∙ ap (λ (s : Option Standing). Some (standing.Outstanding (number_in s))) (get-empty flow_cmp ours)

pub returns-clause-whole : goal.returns-clause-whole
unfolding next_of distance_to vector_of is_new oldest modulus window
returns-clause-whole c = rw (get-empty flow_cmp ours) refl

pub returns-clause-dead : goal.returns-clause-dead
unfolding next_of distance_to vector_of is_new oldest modulus window
returns-clause-dead c = rw (get-empty flow_cmp ours) refl

pub returns-clause-never : goal.returns-clause-never
unfolding next_of distance_to vector_of is_new oldest modulus window
returns-clause-never c = rw (get-empty flow_cmp ours) refl

pub returns-clause-piece : goal.returns-clause-piece
unfolding next_of distance_to vector_of is_new oldest modulus window
returns-clause-piece c = rw (get-empty flow_cmp ours) refl

pub returns-clause-no_slot : goal.returns-clause-no_slot
unfolding next_of distance_to vector_of is_new oldest modulus window
returns-clause-no_slot c = rw (get-empty flow_cmp ours) refl

pub returns-clause-unmarked : goal.returns-clause-unmarked
unfolding next_of distance_to vector_of is_new oldest modulus window
returns-clause-unmarked c = rw (get-empty flow_cmp ours) refl

pub returns-clause-old : goal.returns-clause-old
unfolding next_of distance_to vector_of is_new oldest modulus window
returns-clause-old c = rw (is_noted fate.Taken) refl

pub returns-clause-replied : goal.returns-clause-replied
unfolding next_of distance_to vector_of is_new oldest modulus window
returns-clause-replied c = rw (is_noted fate.Taken) refl

pub returns-clause-unanswered : goal.returns-clause-unanswered
unfolding next_of distance_to vector_of is_new oldest modulus window
returns-clause-unanswered c = rw (is_noted fate.Waits) refl

pub returns-clause-answer : goal.returns-clause-answer
unfolding next_of distance_to vector_of is_new oldest modulus window
returns-clause-answer c = rw is_begun refl

pub returns-clause-other_number : goal.returns-clause-other_number
unfolding next_of distance_to vector_of is_new oldest modulus window
returns-clause-other_number c = rw is_begun refl

pub returns-clause-stale : goal.returns-clause-stale
unfolding next_of distance_to vector_of is_new oldest modulus window
returns-clause-stale c = rw (get-empty flow_cmp ours) refl
