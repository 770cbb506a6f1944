use Rattle.subnet.proofs.Common.{get, insert, empty, get-empty, flow_cmp, same_flow, Flow, Noted, ours}
use Rattle.std.proofs.Common.{◌≡◌, ℕ, Bool, true, false, [], ◌∷◌, Some, None, refl, ap, sym, ◌∙◌, if◌then◌else◌}
use Rattle.link_table.specs.Flows.{begun, outstanding_in, has_outstanding_to}
use Rattle.link_table.specs.Keys.{has_from, drop_from}
use Rattle.link_table.specs.declared.destination.Fate.TheVariants as fate
use Rattle.link_table.specs.declared.source.Standing.TheVariants as standing
use Rattle.link_table.proofs.lemmas.{asked, get_dropped, get_put}
use Rattle.subnet.proofs.Calls.Awaiting.{is_begun, some_outstanding, none_outstanding, nothing_begun, none_kept}
use Rattle.imp_channel.specs.Line.{submitted}
use Rattle.link_table.specs.Numbers.{is_new, oldest, modulus, next, window}
use Rattle.routing.specs.RouteTable.{next_of, distance_to, vector_of}
use Rattle.subnet.proofs.law.worked_still_alive.Goals as goal

-- what IMP 1 knows of the flow
is_known : (last : ℕ) → get {R = flow_cmp} (insert empty ours (standing.Idle last)) ours ≡ Some (standing.Idle last)
is_known last = get_put empty ours ours (standing.Idle last)

-- what IMPs keep of flows from others
abbrev first_taken : Noted
first_taken = record { number = 0; fate = fate.Taken }

one_kept : has_from {V = Noted} 1 (insert empty ours first_taken) ≡ true
one_kept = sym (asked {V = Noted} 1 ((ours, first_taken) ∷ []))

is_kept_there : get {R = flow_cmp} (insert empty ours first_taken) ours ≡ Some first_taken
is_kept_there = get_put empty ours ours first_taken

is_forgotten : get (drop_from 1 (insert empty ours first_taken)) ours ≡ None
is_forgotten = get_dropped (insert empty ours first_taken) 1 ours

-- what is outstanding
answered_by : (last : ℕ) (g : Flow) (b : Bool) → outstanding_in (if b then Some (standing.Idle last) else get {R = flow_cmp} empty g) ≡ None
answered_by last g true = refl
answered_by last g false = ap outstanding_in (get-empty flow_cmp g)

all_answered : (last imp : ℕ) → has_outstanding_to imp (insert empty ours (standing.Idle last)) ≡ false
all_answered last imp = none_outstanding (insert empty ours (standing.Idle last)) imp (λ g. ap outstanding_in (get_put empty ours g (standing.Idle last)) ∙ answered_by last g (same_flow g ours))

ours_outstanding : has_outstanding_to 2 (begun empty ours) ≡ true
ours_outstanding = some_outstanding (begun empty ours) 2 ours 0 refl (ap outstanding_in is_begun)

pub returns : goal.returns
unfolding next_of submitted distance_to vector_of is_new oldest modulus window next
returns c = record {
  alive = (refl, refl, refl, refl);
  asked = (refl, refl);
  other = (refl, refl);
  offer_window = rw (is_known 32767) refl;
  offer_within = rw (is_known 32767) (rw (get-empty flow_cmp ours) refl);
  offer_asked = (rw (is_known 32767) refl, rw (is_known 32767) refl);
  offer_round = rw (is_known 0) refl;
  offer_first = rw (get-empty flow_cmp ours) (rw (get-empty flow_cmp ours) refl);
  offer_kept = rw (is_known 65535, is_kept_there) refl;
  offer_unkept = rw (is_known 65534, is_kept_there) refl;
  forget_kept = rw (all_answered 65535 2) refl;
  offer_forgotten = rw (is_known 65535, is_forgotten) refl;
  offer_full = (rw (is_known 32767) refl, rw (is_known 32767) (rw (get-empty flow_cmp ours) refl));
  offer_nowhere = rw (is_known 32767) refl;
  offer_down = refl;
  give_up_data = rw is_begun refl;
  give_up_rfnm = rw is_begun refl;
  give_up_asked = (rw is_begun refl, rw is_begun refl);
  give_up_queued = rw is_begun refl;
  give_up_other = rw is_begun refl;
  give_up_none = rw (get-empty flow_cmp ours) refl;
  forget_data = refl;
  forget_asked = refl;
  forget_queued = refl;
  forget_back = rw (nothing_begun 1) refl;
  forget_answer = rw (nothing_begun 2) refl;
  forget_never = rw (nothing_begun 2) refl;
  forget_awaited = rw ours_outstanding refl;
  forget_own = rw (nothing_begun 1) refl;
  start_answer = refl;
  start_asked = (refl, refl);
  start_destination = refl;
  start_passing = rw (none_kept 1, nothing_begun 1) refl;
  start_kept = rw one_kept refl;
  start_own = rw (none_kept 1, nothing_begun 1) refl;
  start_keeper = rw (none_kept 2, nothing_begun 2) refl;
  start_awaited = rw (none_kept 2, ours_outstanding) refl;
}
