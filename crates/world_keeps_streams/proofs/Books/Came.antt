-- Where the end of a receiving life has taken its partner's CLS, all that its partner sent has come in; and it sends nothing more.
use Rattle.world_keeps_streams.proofs.Common.{◌≡◌, ◌⊎◌, inl, inr, ℕ, zero, suc, ◌+◌, ◌≤◌, ◌==◌, Bool, true, false, List, [], ◌∷◌, ◌++◌, length, map, Option, Some, None, refl, ap, sym, subst, ◌∙◌, eq-eqb, arith, Contains, Seen, Host, Crossing, is_receive_socket, IsSafe, came_inv, safe_inv, numbered, receiver_now, IsLawful, Moment, crossings_of, WorldState, texts_for, own_calls, Network, AreOurs, all_ours, same_Some}
use Rattle.promise.specs.Safe.{Match, Name, control_flow, last_out, own_request, partner_request, before, named, receives}
use Rattle.world_keeps_streams.specs.Came.{HasTakenCls, HadTakenCls, AllCame, CameAll}
use Rattle.stream_law.specs.Receivers.{Receiver}
use Rattle.promise.specs.declared.life.Life.{Life}
use Rattle.world_keeps_streams.proofs.Books.All.{all_given}
use Rattle.world_keeps_streams.proofs.Books.Arrives.{rest_lawful}
use Rattle.world_keeps_streams.proofs.Books.Books.{one_own}
use Rattle.world_keeps_streams.proofs.Books.CameIn.{came_as}
use Rattle.world_keeps_streams.proofs.Books.Clauses.{OldGranter, settled_s}
use Rattle.world_keeps_streams.proofs.Books.Closes as closes
use Rattle.world_keeps_streams.proofs.Books.Closes.{AtLink}
use Rattle.world_keeps_streams.proofs.Books.Later.{Answers, named_request, same_link}
use Rattle.world_keeps_streams.proofs.Books.Finished.{Done, Fixed, has_sent, has_source, next_is}
use Rattle.world_keeps_streams.proofs.Lives.Lists.{IsOf, Named, contains, grown, is_of, named_itself, of_left, of_map}
use Rattle.world_keeps_streams.proofs.Requests.Sides.{Heard, Lawful, Own, lives_in, below, book_lawful}
use Rattle.world_keeps_streams.proofs.Steps.Overs.{over_alike}
use Rattle.world_keeps_streams.proofs.Facts.{none_long}
use Rattle.interface.proofs.lemmas.{unlike}
use Rattle.world_keeps_streams.proofs.Ours.{ours_of, ours_receiver}

-- ---- a life by its names

named_same : (x t : Life) → Named x t → (o : Option ℕ) → named t o ≡ named x o
named_same x t n None = refl
named_same x t n (Some p) =
    ap (λ (k : ℕ). let r : Name = record { place = p; own = k; foreign = t.socket } in Some r) n.foreign ∙ ap (λ (k : ℕ). let r : Name = record { place = p; own = x.foreign; foreign = k } in Some r) n.socket

pub partner_named : (log : List Crossing) (x t : Life) → Named x t → partner_request log t ≡ partner_request log x
partner_named log x t n =
    named_same x t n (last_out (control_flow t.peer t.host) (before t.partner_stamp log))
    ∙ ap (λ (h : Host). named x (last_out (control_flow h t.host) (before t.partner_stamp log))) n.peer
    ∙ ap (λ (h : Host). named x (last_out (control_flow x.peer h) (before t.partner_stamp log))) n.host
    ∙ ap (λ (k : ℕ). named x (last_out (control_flow x.peer x.host) (before k log))) n.partner

pub match_named : (log : List Crossing) (x t s : Life) → Named x t → Match log x s → Match log t s
match_named log x t s n m = record {
  receiving = ap is_receive_socket n.socket ∙ m.receiving;
  sending = m.sending;
  peers = (n.peer ∙ m.peers.0, m.peers.1 ∙ sym n.host);
  sockets = (n.foreign ∙ m.sockets.0, m.sockets.1 ∙ sym n.socket);
  asked = partner_named log x t n ∙ m.asked;
  answered = m.answered ∙ sym (ap (λ (r : Name). Some r) (named_request x t n));
}

names_turned : (x t : Life) → Named x t → Named t x
names_turned x t n = record { host = sym n.host; socket = sym n.socket; peer = sym n.peer; foreign = sym n.foreign; own = sym n.own; partner = sym n.partner }

-- ---- where its end has taken the CLS

module _ (hosts : Network) (ms : List Moment) (l : Lawful hosts ms) (x : Life) (ours : AreOurs hosts x.host x.peer)
    (f : HasTakenCls ms x) where
  abbrev at_link : AtLink hosts ms x
  at_link = record { ours = ours; there = f.there; receiving = f.receiving; goes = f.goes; end = f.end; link = f.link; linked = f.linked }

  abbrev n : ℕ
  n = closes.n hosts ms l x at_link

  abbrev c : ℕ
  c = closes.c hosts ms l x at_link

  -- what was sent in the connection on each link
  abbrev sent_then : ℕ → List (List Bool)
  sent_then m = ((closes.w hosts ms l x at_link).j m).x.sender.sent (closes.c hosts ms l x at_link)

  over_here : (receiver_now numbered x.peer (suc n) (own_calls x.host x.peer ms)).over c ≡ true
  over_here =
      ap (λ (k : ℕ). (receiver_now numbered x.peer (suc n) (own_calls x.host x.peer ms)).over k) (sym (closes.name_is hosts ms l x at_link)) ∙ (closes.law hosts ms l x at_link).over ∙ f.closed

  over : (m : ℕ) → ((closes.w hosts ms l x at_link).j m).x.receiver.over c ≡ true
  over m =
      ap (λ (r : Receiver). r.over c) (((closes.w hosts ms l x at_link).j m).received_a (closes.stays hosts ms l x at_link))
      ∙ ap (λ (v : ℕ → Bool). v c) (over_alike numbered x.peer (suc m) (suc n) (own_calls x.host x.peer ms)) ∙ over_here

  sent_came : length (sent_then n) ≡ length (texts_for x f.link (crossings_of ms))
  sent_came = came_inv ((closes.w hosts ms l x at_link).j n).x ((closes.w hosts ms l x at_link).j n).joint.inv_x c (over n) ∙ sym (came_as hosts ms l x at_link)

  apart : (m : ℕ) → (m == n) ≡ false → sent_then m ≡ []
  apart m other = none_long (sent_then m) (by (((closes.w hosts ms l x at_link).j m).x.receiver.granted c).messages refl) where
    safe : IsSafe ((closes.w hosts ms l x at_link).j m).x c
    safe = safe_inv ((closes.w hosts ms l x at_link).j m).x ((closes.w hosts ms l x at_link).j m).joint.inv_x c

    within : length (sent_then m) + (((closes.w hosts ms l x at_link).j m).x.receiver.returned c).messages ≤ (((closes.w hosts ms l x at_link).j m).x.receiver.granted c).messages
    within = safe.sent.in_messages

    by : (k : ℕ) → (((closes.w hosts ms l x at_link).j m).x.receiver.granted c).messages ≡ k → length (sent_then m) ≤ 0
    by zero e = omega (arith, within, e)
    by (suc k) e = absurd (unlike (m == n) (eq-eqb m n (same_link hosts ms l x at_link m (omega (arith, e)))) other)

  fixed_now : Fixed hosts x.host x.peer ours sent_then n apart ms l x
  fixed_now = record {
    late = closes.late hosts ms l x at_link;
    g = (closes.known hosts ms l x at_link).g;
    own = (closes.known hosts ms l x at_link).own;
    fixed = λ m. (over m, refl);
    early = λ s i k. nothing s k (settled_s hosts x.host x.peer (Own x.host x.peer) (Heard x.host x.peer) (all_given hosts x.host x.peer ours) ms l s i k.host k.peer k.sending).granted;
  } where
    nothing : (s : Life) → Answers hosts x.host x.peer ours ms s (own_request x)
        → ((s.messages ≡ 0) × (s.bits ≡ [])) ⊎ OldGranter ms s → (s.messages ≡ 0) × (s.bits ≡ [])
    nothing s k (inl none) = none
    nothing s k (inr o) =
        let same : o.receiver ≡ x = one_own hosts ms l o.receiver x (ours_receiver hosts o.matches (ours_of hosts s x.peer x.host (ours.1, ours.0) (k.host, k.peer))) ours o.there (is_of x (lives_in ms) f.there) (same_Some (own_request o.receiver) (own_request x) (sym o.matches.answered ∙ k.is)) in
        absurd (unlike x.ended (ap (λ (y : Life). y.ended) (sym same) ∙ o.over) f.goes)

-- ---- whatever happens later

-- the same life, later
record Later (hosts : Network) (newer ms : List Moment) (l : Lawful hosts (newer ++ ms)) (x : Life) (ours : AreOurs hosts x.host x.peer) (f : HasTakenCls ms x) : Type 0 where
  life : Life
  there : IsOf life (lives_in (newer ++ ms))
  names : Named x life
  state : Fixed hosts x.host x.peer ours (sent_then hosts ms (rest_lawful hosts newer ms l) x ours f) (n hosts ms (rest_lawful hosts newer ms l) x ours f) (apart hosts ms (rest_lawful hosts newer ms l) x ours f) (newer ++ ms) l life
      ⊎ Done hosts x.host x.peer ours (sent_then hosts ms (rest_lawful hosts newer ms l) x ours f) (n hosts ms (rest_lawful hosts newer ms l) x ours f) (apart hosts ms (rest_lawful hosts newer ms l) x ours f) (newer ++ ms) life

later : (hosts : Network) (newer ms : List Moment) (l : Lawful hosts (newer ++ ms)) (x : Life) (ours : AreOurs hosts x.host x.peer) (f : HasTakenCls ms x)
    → Later hosts newer ms l x ours f
unfolding rest_lawful
later hosts [] ms l x ours f = record { life = x; there = is_of x (lives_in ms) f.there; names = named_itself x; state = inl (fixed_now hosts ms l x ours f) }
later hosts (z ∷ newer) ms l x ours f =
    let o : Later hosts newer ms (below hosts z (newer ++ ms) l) x ours f = later hosts newer ms (below hosts z (newer ++ ms) l) x ours f in
    let k : Named o.life ((grown z (newer ++ ms)).change o.life) = (grown z (newer ++ ms)).names o.life in
    record {
      life = (grown z (newer ++ ms)).change o.life;
      there = subst (λ (ys : List Life). IsOf ((grown z (newer ++ ms)).change o.life) ys) (sym (grown z (newer ++ ms)).is)
          (of_left ((grown z (newer ++ ms)).change o.life) (map (grown z (newer ++ ms)).change (lives_in (newer ++ ms))) (grown z (newer ++ ms)).more (of_map (grown z (newer ++ ms)).change o.life (lives_in (newer ++ ms)) o.there));
      names = record {
        host = k.host ∙ o.names.host;
        socket = k.socket ∙ o.names.socket;
        peer = k.peer ∙ o.names.peer;
        foreign = k.foreign ∙ o.names.foreign;
        own = k.own ∙ o.names.own;
        partner = k.partner ∙ o.names.partner;
      };
      state = next_is hosts x.host x.peer ours (sent_then hosts ms (rest_lawful hosts newer ms (below hosts z (newer ++ ms) l)) x ours f) (n hosts ms (rest_lawful hosts newer ms (below hosts z (newer ++ ms) l)) x ours f) (apart hosts ms (rest_lawful hosts newer ms (below hosts z (newer ++ ms) l)) x ours f)
          z (newer ++ ms) l o.life o.names.host o.names.peer (ap is_receive_socket o.names.socket ∙ f.receiving) o.there o.state;
    }

came_at : (hosts : Network) (newer ms : List Moment) → Lawful hosts (newer ++ ms) → (x : Life)
    → AreOurs hosts x.host x.peer → (f : HasTakenCls ms x)
    → CameAll (crossings_of ms) (crossings_of (newer ++ ms)) (lives_in (newer ++ ms)) x f.link
came_at hosts newer ms l x ours f = record { all = all; source = source } where
  older : Lawful hosts ms
  older = rest_lawful hosts newer ms l

  o : Later hosts newer ms l x ours f
  o = later hosts newer ms l x ours f

  kind : receives o.life ≡ true
  kind = ap is_receive_socket o.names.socket ∙ f.receiving

  all : (s : Life) → Contains (lives_in (newer ++ ms)) s → Match (crossings_of (newer ++ ms)) x s → s.messages ≡ length (texts_for x f.link (crossings_of ms))
  all s there m =
      has_sent hosts x.host x.peer ours (sent_then hosts ms older x ours f) (n hosts ms older x ours f) (apart hosts ms older x ours f) (newer ++ ms) l o.life o.names.host o.names.peer kind o.there o.state s (is_of s (lives_in (newer ++ ms)) there)
      (match_named (crossings_of (newer ++ ms)) x o.life s o.names m) ∙ sent_came hosts ms older x ours f

  source : (length (texts_for x f.link (crossings_of ms)) ≡ 0 → ⊥) → (s : Life) × Contains (lives_in (newer ++ ms)) s × Match (crossings_of (newer ++ ms)) x s
  source some =
      let r : (s : Life) × IsOf s (lives_in (newer ++ ms)) × Match (crossings_of (newer ++ ms)) o.life s =
      has_source hosts x.host x.peer ours (sent_then hosts ms older x ours f) (n hosts ms older x ours f) (apart hosts ms older x ours f) (newer ++ ms) l o.life o.names.host o.names.peer kind o.state
      (λ none. some (sym (sent_came hosts ms older x ours f) ∙ ap (λ (ts : List (List Bool)). length ts) none)) in
      (r.0, contains r.0 (lives_in (newer ++ ms)) r.1, match_named (crossings_of (newer ++ ms)) o.life x r.0 (names_turned x o.life o.names) r.2)

-- ---- at all moments, and in worlds

pub all_came : (hosts : Network) (ms : List Moment) → Lawful hosts ms → (later earlier : List Moment)
    → ms ≡ later ++ earlier → (x : Life) → AreOurs hosts x.host x.peer → (f : HadTakenCls earlier x)
    → CameAll (crossings_of f.earlier) (crossings_of earlier) (lives_in earlier) x f.then.link
all_came hosts ms l newer older is x ours f =
    subst (λ (ns : List Moment). Lawful hosts ns → CameAll (crossings_of f.earlier) (crossings_of ns) (lives_in ns) x f.then.link) (sym f.is) (λ k. came_at hosts f.later f.earlier k x ours f.then)
    (rest_lawful hosts newer older (subst (λ (ns : List Moment). Lawful hosts ns) is l))

pub world_came : {C : Type 0} (seen : C → Seen) (hosts : List Host) (w : WorldState C) → (lawful : IsLawful seen hosts w) → AllCame lawful.whole.moments
world_came seen hosts w lawful later earlier is x = all_came (all_ours hosts) lawful.whole.moments (book_lawful seen hosts w lawful) later earlier is x (refl, refl)
