use Rattle.world_keeps_streams.proofs.Common.{◌≡◌, ℕ, Bool, true, false, List, [], ◌∷◌, ◌++◌, if◌then◌else◌, Option, None, refl, ap, subst, ◌∙◌, inl, inr, arith, Host, some_is, spent, receiving_end, asked_at, Entry, first, second, own_calls, gave, Crossed, program, none_there}
use Rattle.host_pairs.specs.Commands.{asked_with_size, granted}
use Rattle.host_keeps_streams.specs.Histories.{Closes, HasClosed, name_now, numbered}
use Rattle.world_keeps_streams.specs.Closes.{IsClosedByPartner, WasClosedBy}
use Rattle.world_keeps_streams.specs.Worked.{ended_moments, quit_moments, close_back, stopped_moments, took_eight}
use Rattle.bit_messages.specs.Octets.{octets_of}
use Rattle.interface.specs.declared.crossing.Crossing.TheVariants as crossing
use Rattle.ncp_control.specs.Packing.{packed_count}
use Rattle.ncp_control.specs.Reading.{read_of, command_of}
use Rattle.host_pairs.specs.Control.{orders_of}
use Rattle.host_pairs.specs.declared.entry.Closing.TheVariants as closing
use Rattle.host_keeps_streams.specs.Histories as calls
use Rattle.sockets.specs.Accepting.{accepted}
use Rattle.sockets.specs.Requests.{refusal, served, served_notices}
use Rattle.sockets.specs.Sending.{next_out, offered}
use Rattle.net_sim.specs.Worked.{eight}
use Rattle.world_keeps_streams.proofs.law.worked_closes.Goals as goal

-- calls of which none closes an end
is_other : calls.Call → Bool
is_other (Closes socket e) = false
is_other c = true

are_others : List calls.Moment → Bool
are_others [] = true
are_others (m ∷ ms) = if is_other m.call then are_others ms else false

not_closing : (name : ℕ → ℕ → ℕ) (link c : ℕ) (k : calls.Call) → is_other k ≡ true → calls.IsClosing name link c k → ⊥
unfolding is_other
not_closing name link c (Closes socket e) o i = absurd (let no : false ≡ true = o in cc)
not_closing name link c k o i = i

closes_at : (peer : Host) (link c : ℕ) (m : calls.Moment) (ms : List calls.Moment) (v : Bool) → is_other m.call ≡ v → (if v then are_others ms else false) ≡ true → (are_others ms ≡ true → HasClosed numbered peer link c ms → ⊥) → HasClosed numbered peer link c (m ∷ ms) → ⊥
closes_at peer link c m ms true e f rest (inl i) = not_closing (name_now numbered peer ms) link c m.call e i
closes_at peer link c m ms true e f rest (inr i) = rest f i
closes_at peer link c m ms false e f rest i = absurd (let no : false ≡ true = f in cc)

none_closes : (peer : Host) (link c : ℕ) (ms : List calls.Moment) → are_others ms ≡ true → HasClosed numbered peer link c ms → ⊥
unfolding are_others
none_closes peer link c [] o h = h
none_closes peer link c (m ∷ ms) o h = closes_at peer link c m ms (is_other m.call) refl o (λ (f : are_others ms ≡ true) (i : HasClosed numbered peer link c ms). none_closes peer link c ms f i) h

first_closed : List Entry → Bool
first_closed [] = true
first_closed (e ∷ es) = e.partner_closed

first_link : List Entry → Option ℕ
first_link [] = None
first_link (e ∷ es) = e.link

closed_there : IsClosedByPartner ended_moments took_eight
unfolding octets_of orders_of read_of command_of packed_count accepted refusal served served_notices next_out offered is_other are_others
closed_there = record {
  there = (1, omega arith, refl);
  receiving = refl;
  goes = refl;
  end = record {
    end = record (spent 8 (granted 2 100 (asked_with_size 10 8 (asked_at 6 (receiving_end 16 33 2))))) { closing = closing.Queued; partner_closed = true };
    one = refl;
    others = λ other away. none_there 16 second other (program first ended_moments).peers (refl, tt) away;
    foreign = refl;
    own = refl;
    partner = refl;
  };
  closed = refl;
  link = 2;
  linked = refl;
  unclosed = none_closes second 2 (name_now numbered second (own_calls first second ended_moments) 16 33) (own_calls first second ended_moments) refl;
}

pub returns-clause-ended : goal.returns-clause-ended
returns-clause-ended c = closed_there

pub returns-clause-over : goal.returns-clause-over
unfolding octets_of orders_of read_of command_of packed_count accepted refusal served served_notices next_out offered
returns-clause-over c = record {
  there = (1, omega arith, refl);
  later = Crossed (crossing.Out close_back) ∷ [];
  earlier = ended_moments;
  is = refl;
  receiver = took_eight;
  then = closed_there;
  same = refl;
}

pub returns-clause-stopped : goal.returns-clause-stopped
unfolding octets_of orders_of read_of command_of packed_count accepted refusal served served_notices next_out offered
returns-clause-stopped c = record {
  there = (1, omega arith, refl);
  later = Crossed (crossing.Down first) ∷ [];
  earlier = ended_moments;
  is = refl;
  receiver = took_eight;
  then = closed_there;
  same = refl;
}

closed_by : WasClosedBy ended_moments gave took_eight
unfolding octets_of orders_of read_of command_of packed_count accepted refusal served served_notices next_out offered
closed_by = record {
  closed = record { there = (1, omega arith, refl); later = []; earlier = ended_moments; is = refl; receiver = took_eight; then = closed_there; same = refl };
  matches = record { receiving = refl; sending = refl; peers = (refl, refl); sockets = (refl, refl); asked = refl; answered = refl };
}

closed_here : IsClosedByPartner stopped_moments took_eight
unfolding octets_of orders_of read_of command_of packed_count accepted refusal served served_notices next_out offered is_other are_others
closed_here = record {
  there = (1, omega arith, refl);
  receiving = refl;
  goes = refl;
  end = record {
    end = record (spent 8 (granted 2 100 (asked_with_size 10 8 (asked_at 6 (receiving_end 16 33 2))))) { closing = closing.Queued; partner_closed = true };
    one = refl;
    others = λ other away. none_there 16 second other (program first stopped_moments).peers (refl, tt) away;
    foreign = refl;
    own = refl;
    partner = refl;
  };
  closed = refl;
  link = 2;
  linked = refl;
  unclosed = none_closes second 2 (name_now numbered second (own_calls first second stopped_moments) 16 33) (own_calls first second stopped_moments) refl;
}

pub returns-clause-left : goal.returns-clause-left
unfolding octets_of orders_of read_of command_of packed_count accepted refusal served served_notices next_out offered
returns-clause-left c = record {
  closed = record { there = (1, omega arith, refl); later = []; earlier = stopped_moments; is = refl; receiver = took_eight; then = closed_here; same = refl };
  matches = record { receiving = refl; sending = refl; peers = (refl, refl); sockets = (refl, refl); asked = refl; answered = refl };
}

pub returns-clause-whole : goal.returns-clause-whole
returns-clause-whole c = closed_by

pub returns-clause-handed : goal.returns-clause-handed
returns-clause-handed c = ((λ w. refl), tt)

pub returns-clause-unsent : goal.returns-clause-unsent
returns-clause-unsent c h = let more : eight ≡ eight ++ true ∷ [] = h.0 closed_by in absurd (cc)

pub returns-clause-open : goal.returns-clause-open
unfolding octets_of orders_of read_of command_of packed_count accepted refusal served served_notices next_out offered first_closed
returns-clause-open c f = let both : false ≡ true = ap first_closed f.end.one ∙ f.closed in absurd (cc)

pub returns-clause-quit : goal.returns-clause-quit
unfolding octets_of orders_of read_of command_of packed_count accepted refusal served served_notices next_out offered first_link
returns-clause-quit c f =
    let link_is : 2 ≡ f.link = some_is 2 f.link (ap first_link f.end.one ∙ f.linked) in
    f.unclosed (subst (λ (k : ℕ). HasClosed numbered second k (name_now numbered second (own_calls first second quit_moments) 16 33) (own_calls first second quit_moments)) link_is (inr (inr (inl (refl, refl)))))
