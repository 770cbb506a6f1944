-- Lives whose hosts have nothing left to do agree.
use Rattle.world_keeps_streams.proofs.Common.{◌≡◌, ℕ, ◌==◌, true, false, List, [], Option, Some, None, is_some, refl, ap, sym, subst, ◌∙◌, ◌++◌, eqb-true, Seen, Host, is_receive_socket, is_busy, is_mine_on, is_open, is_receiving, was_closed, Entry, both, boxes, kind_in, pair, pair_with, NcpState, IsLawful, Agrees, Moment, events_of, program, crossings_of, seen_box, WorldState, send_odd, Network, AreOurs, all_ours, Contains, Match, HasOpenEnd, linked_end}
use Rattle.host_pairs.specs.Parcels.{next_of, sendable}
use Rattle.reset_law.proofs.lemmas.{sound_run, stays_ready, ready_phase}
use Rattle.sockets.specs.Sending.{next_in, next_out}
use Rattle.net_sim.proofs.lemmas.{box_same, story_agrees}
use Rattle.world_keeps_streams.specs.Rests.{Agree, AreAtRest, AreSilent, NoneOut, NoneWaits, AllCalm, AreCalm, AreOpen}
use Rattle.interface.specs.Mailboxes as mail
use Rattle.ncp_control.specs.Phases as program_phases
use Rattle.reset_law.specs.Stays as stay
use Rattle.net_sim.specs.Told.{kept_in}
use Rattle.promise.specs.declared.life.Life.{Life}
use Rattle.world_keeps_streams.proofs.Books.Agree.{settled}
use Rattle.world_keeps_streams.proofs.Books.Arrives.{end_at, rest_lawful, stays_of}
use Rattle.world_keeps_streams.proofs.Books.Closes.{AtLink, rests}
use Rattle.world_keeps_streams.proofs.Books.Firsts.{together}
use Rattle.world_keeps_streams.proofs.Books.One.{HasPartner}
use Rattle.world_keeps_streams.proofs.Books.Unclosed.{all_answered, taker_open, unclosed}
use Rattle.world_keeps_streams.proofs.Deeds.Effects.{Among}
use Rattle.world_keeps_streams.proofs.Requests.Sides.{Lawful, coupled_in, book_lawful}
use Rattle.world_keeps_streams.proofs.Stays.Resets.{up_ready}
use Rattle.world_keeps_streams.proofs.Tidy.Mute.{none_in, none_next, none_queued, not_busy, nothing_goes}
use Rattle.world_keeps_streams.proofs.Calls.Chain.{ready_both}
use Rattle.world_keeps_streams.proofs.Ours.{ours_sender}
use Rattle.world_keeps_streams.proofs.Lives.Among.{among_now}

-- ---- a program that has nothing to say

module _ (hosts : Network) (ms : List Moment) (l : Lawful hosts ms) (h p : Host) (ours : AreOurs hosts h p)
    (stays : stay.stays h p (events_of ms) ≡ true) (out : NoneOut h p (crossings_of ms))
    (next : next_of (pair_with p (program h ms).peers) ≡ None) where
  agrees : Agrees (pair_with p (program h ms).peers) (pair h p (events_of ms))
  agrees = story_agrees hosts ms h p ours (coupled_in hosts ms l).story

  is_ready : program_phases.is_ready (pair_with p (program h ms).peers).phase ≡ true
  is_ready = sym (ready_both hosts h p ms ours (coupled_in hosts ms l).story) ∙ stays_ready (events_of ms) h p stays

  pub free : (k : ℕ) → is_busy (pair_with p (program h ms).peers).busy k ≡ false
  free k =
      let up : (pair h p (events_of ms)).out k ≡ kind_in (boxes h p (events_of ms) k) =
      (sound_run hosts (events_of ms) (coupled_in hosts ms l).run h p ours (up_ready hosts (events_of ms) (coupled_in hosts ms l).run h p ours (stays_ready (events_of ms) h p stays))).outstanding.boxed k in
      sym (agrees.busy k) ∙ ap is_some (up ∙ ap kind_in (box_same h p ms k ∙ ap (seen_box k) (out k)))

  pub nothing_queued : (pair_with p (program h ms).peers).queue ≡ []
  nothing_queued = none_queued (pair_with p (program h ms).peers) (ready_phase (pair_with p (program h ms).peers).phase is_ready) (not_busy (pair_with p (program h ms).peers).busy free) next

  -- no open end may send
  pub nothing_more : (e : Entry) → Among e (pair_with p (program h ms).peers).entries → is_receiving e ≡ false
      → is_open e ≡ true → is_some e.link ≡ true → sendable e ≡ 0
  nothing_more e i sends opened linked =
      nothing_goes (pair_with p (program h ms).peers) (ready_phase (pair_with p (program h ms).peers).phase is_ready) (not_busy (pair_with p (program h ms).peers).busy free) next e i sends opened linked
      (all_answered (pair_with p (program h ms).peers).busy free e.link)

-- no message waits where each was answered
none_waits : (h p : Host) (ms : List Moment) → NoneOut h p (crossings_of ms) → (link : ℕ)
    → NoneWaits (record { source = h; destination = p; link = record { 0 = link } }) (crossings_of ms)
none_waits h p ms out link place text e = not_waiting (sym (out link) ∙ e) where
  not_waiting : mail.Empty ≡ mail.Waiting place text → ⊥
  not_waiting f = absurd (cc)

-- ---- two lives

-- that match and aren't over, where neither host has anything to say to the other, and each message between them was answered
pub record AreDone (ms : List Moment) (x s : Life) : Type 0 where
  pub there : Contains (kept_in ms).book.lives x
  pub sender_there : Contains (kept_in ms).book.lives s
  pub matches : Match (crossings_of ms) x s
  pub goes : x.ended ≡ false
  pub sender_goes : s.ended ≡ false
  pub end : HasOpenEnd (program x.host ms) x
  pub giver : HasOpenEnd (program s.host ms) s
  pub out : NoneOut x.host s.host (crossings_of ms)
  pub back : NoneOut s.host x.host (crossings_of ms)
  pub next : next_of (pair_with s.host (program x.host ms).peers) ≡ None
  pub next_back : next_of (pair_with x.host (program s.host ms).peers) ≡ None

module _ (hosts : Network) (ms : List Moment) (l : Lawful hosts ms) (x s : Life) (ours : AreOurs hosts x.host x.peer)
    (c : AreDone ms x s) where
  theirs : AreOurs hosts s.host s.peer
  theirs = ours_sender hosts c.matches ours

  here : stay.stays x.host s.host (events_of ms) ≡ true
  here = subst (λ (h : Host). stay.stays x.host h (events_of ms) ≡ true) c.matches.peers.0 (stays_of hosts ms l x ours c.there c.goes)

  there : stay.stays s.host x.host (events_of ms) ≡ true
  there = subst (λ (h : Host). stay.stays s.host h (events_of ms) ≡ true) c.matches.peers.1 (stays_of hosts ms l s theirs c.sender_there c.sender_goes)

  own_link : (k : ℕ) × (c.end.end.link ≡ Some k) × ((k == 0) ≡ false)
  own_link = linked_end hosts (together hosts) ms l x (among_now hosts ms x ours c.there) c.goes c.end

  abbrev at : AtLink hosts ms x
  at = record { ours = ours; there = c.there; receiving = c.matches.receiving; goes = c.goes; end = c.end; link = own_link.0; linked = own_link.1 }

  abbrev partner : HasPartner ms x s
  partner = record { there = c.sender_there; matches = c.matches; goes = c.sender_goes; end = c.giver }

  abbrev quiet : AreSilent x.host s.host ms
  quiet = record {
    there = none_waits x.host s.host ms c.out 0;
    back = none_waits s.host x.host ms c.back 0;
    queue = nothing_queued hosts ms l x.host s.host (ours.0, theirs.0) here c.out c.next;
    queue_back = nothing_queued hosts ms l s.host x.host (theirs.0, ours.0) there c.back c.next_back;
  }

  -- all that the sender sent is answered
  sender_stays : stay.stays s.host s.peer (events_of ms) ≡ true
  sender_stays = stays_of hosts ms l s theirs c.sender_there c.sender_goes

  out : NoneOut s.host s.peer (crossings_of ms)
  out = subst (λ (h : Host). NoneOut s.host h (crossings_of ms)) (sym c.matches.peers.1) c.back

  next_peer : next_of (pair_with s.peer (program s.host ms).peers) ≡ None
  next_peer = subst (λ (h : Host). next_of (pair_with h (program s.host ms).peers) ≡ None) (sym c.matches.peers.1) c.next_back

  answered : (k : ℕ) → is_busy (pair_with s.peer (program s.host ms).peers).busy k ≡ false
  answered = free hosts ms l s.host s.peer theirs sender_stays out next_peer

  -- and it may send no more
  sender_link : (k : ℕ) × (c.giver.end.link ≡ Some k) × ((k == 0) ≡ false)
  sender_link = linked_end hosts (together hosts) ms l s (among_now hosts ms s theirs c.sender_there) c.sender_goes c.giver

  sender_end : Among c.giver.end (pair_with s.peer (program s.host ms).peers).entries × (is_mine_on s.socket c.giver.end ≡ true)
  sender_end = end_at s (program s.host ms) c.giver

  sending : is_receiving c.giver.end ≡ false
  sending = ap is_receive_socket (eqb-true c.giver.end.own s.socket (both c.giver.end.mine (c.giver.end.own == s.socket) sender_end.1).1) ∙ send_odd s.socket c.matches.sending

  waits : is_open c.giver.end ≡ true → sendable c.giver.end ≡ 0
  waits opened = nothing_more hosts ms l s.host s.peer theirs sender_stays out next_peer c.giver.end sender_end.0 sending opened (ap (λ (o : Option ℕ). is_some o) sender_link.1)

  abbrev rest : AreAtRest ms x s
  rest = record {
    there = c.there;
    sender_there = c.sender_there;
    matches = c.matches;
    goes = c.goes;
    sender_goes = c.sender_goes;
    end = c.end;
    opened = taker_open hosts ms l x s at partner quiet answered;
    link = own_link.0;
    linked = own_link.1;
    silent = subst (λ (h : Host). NoneWaits (record { source = h; destination = x.host; link = record { 0 = own_link.0 } }) (crossings_of ms)) (sym c.matches.peers.0) (none_waits s.host x.host ms c.back own_link.0);
  }

  both_open : AreOpen c.end.end c.giver.end
  both_open =
      let are : (was_closed c.end.end ≡ false) × (is_open c.giver.end ≡ true) × (was_closed c.giver.end ≡ true → c.giver.end.bits ≡ [] → ⊥) = unclosed hosts ms l x s at partner quiet answered in
      record { unclosed = are.0; opened = are.1; drains = are.2; waits = waits are.1 }

  pub done : (x.bits ≡ s.bits) × (x.messages ≡ s.messages) × Agree x c.end.end c.giver.end × AreOpen c.end.end c.giver.end
  done = let same : (x.bits ≡ s.bits) × (x.messages ≡ s.messages) = rests hosts ms l x s ours rest in (same.0, same.1, settled hosts ms l x s ours (record { rest = rest; giver = c.giver; silent = quiet }), both_open)

-- ---- programs that have nothing to say to anybody

pub silent_next : (s : NcpState) (p : Host) → next_out s ≡ None → next_of (pair_with p s.peers) ≡ None
unfolding next_out
silent_next s p mute = none_next s.peers (none_in s.own (next_in s.peers) mute) p

pub calm : (hosts : Network) (ms : List Moment) → Lawful hosts ms → (x s : Life) → AreOurs hosts x.host x.peer
    → (c : AreCalm ms x s)
    → (x.bits ≡ s.bits) × (x.messages ≡ s.messages) × Agree x c.end.end c.giver.end × AreOpen c.end.end c.giver.end
calm hosts ms l x s ours c = done hosts ms l x s ours (record {
  there = c.there;
  sender_there = c.sender_there;
  matches = c.matches;
  goes = c.goes;
  sender_goes = c.sender_goes;
  end = c.end;
  giver = c.giver;
  out = c.idle.there;
  back = c.idle.back;
  next = silent_next (program x.host ms) s.host c.idle.mute;
  next_back = silent_next (program s.host ms) x.host c.idle.mute_back;
})

-- ---- at all moments, and in worlds

pub all_calm : (hosts : Network) (ms : List Moment) → Lawful hosts ms → (later earlier : List Moment)
    → ms ≡ later ++ earlier → (x s : Life) → AreOurs hosts x.host x.peer → (c : AreCalm earlier x s)
    → (x.bits ≡ s.bits) × (x.messages ≡ s.messages) × Agree x c.end.end c.giver.end × AreOpen c.end.end c.giver.end
all_calm hosts ms l later earlier is x s ours c = calm hosts earlier (rest_lawful hosts later earlier (subst (λ (ns : List Moment). Lawful hosts ns) is l)) x s ours c

pub world_calms : {C : Type 0} (seen : C → Seen) (hosts : List Host) (w : WorldState C)
    → (lawful : IsLawful seen hosts w) → AllCalm lawful.whole.moments
world_calms seen hosts w lawful later earlier is x s = all_calm (all_ours hosts) lawful.whole.moments (book_lawful seen hosts w lawful) later earlier is x s (refl, refl)
