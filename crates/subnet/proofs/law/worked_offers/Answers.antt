use Rattle.subnet.proofs.Common.{◌≡◌, ℕ, Some, refl, get, insert, empty, flow_cmp, Noted, Standing, ours}
use Rattle.link_table.specs.declared.destination.Fate.TheVariants as fate
use Rattle.link_table.specs.declared.source.Standing.TheVariants as standing
use Rattle.link_table.proofs.lemmas.{get_put}
use Rattle.imp_channel.specs.Line.{submitted}
use Rattle.link_table.specs.Numbers.{is_new, oldest, modulus, next, window}
use Rattle.routing.specs.RouteTable.{next_of, distance_to, vector_of}
use Rattle.subnet.proofs.law.worked_offers.Goals as goal

-- what IMP 1 knows of the flow, and what IMP 2 keeps of it
is_known : (s : Standing) → get {R = flow_cmp} (insert empty ours s) ours ≡ Some s
is_known s = get_put empty ours ours s

abbrev taken : ℕ → Noted
taken n = record { number = n; fate = fate.Taken }

is_kept_there : (n : ℕ) → get {R = flow_cmp} (insert empty ours (taken n)) ours ≡ Some (taken n)
is_kept_there n = get_put empty ours ours (taken n)

pub returns-clause-outstanding : goal.returns-clause-outstanding
unfolding next_of submitted distance_to vector_of is_new oldest modulus window next
returns-clause-outstanding c = rw (is_known (standing.Outstanding 32767)) refl

pub returns-clause-answered : goal.returns-clause-answered
unfolding next_of submitted distance_to vector_of is_new oldest modulus window next
returns-clause-answered c = rw (is_known (standing.Answered 32767)) refl

pub returns-clause-outstanding_kept : goal.returns-clause-outstanding_kept
unfolding next_of submitted distance_to vector_of is_new oldest modulus window next
returns-clause-outstanding_kept c = rw (is_known (standing.Outstanding 65535)) refl

pub returns-clause-answered_kept : goal.returns-clause-answered_kept
unfolding next_of submitted distance_to vector_of is_new oldest modulus window next
returns-clause-answered_kept c = rw (is_known (standing.Answered 65535)) refl

pub returns-clause-kept_above : goal.returns-clause-kept_above
unfolding next_of submitted distance_to vector_of is_new oldest modulus window next
returns-clause-kept_above c = rw (is_known (standing.Idle 65535), is_kept_there 65535) refl
