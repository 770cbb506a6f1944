-- A receiving life that isn't over beside the law of its link; and one at rest, whose end is open, took all that its partner sent.
use Rattle.world_keeps_streams.proofs.Common.{Contains, Seen, Host, box_of, IsSafe, waiting_in, safe_inv, some_is, is_mine_on, receives_on, both, HasReceiver, IsReceiver, name_now, numbered, receiver_now, Fetched, Free, IsPosted, boxes, pair_with, IsLawful, Moment, events_of, program, crossings_of, seen_box, WorldState, HasOpenEnd, open_parts, own_calls, Network, AreOurs, all_ours}
use Rattle.std.proofs.Common.{◌≡◌, ◌⊎◌, inl, inr, ℕ, suc, ◌+◌, ◌≤◌, ◌==◌, Bool, true, false, List, [], ◌∷◌, ◌++◌, length, filter, Some, refl, ap, sym, subst, ◌∙◌, arith, append-nil}
use Rattle.std.proofs.lemmas.Bool.{eqb-true, ne_eqb}
use Rattle.promise.specs.Safe.{Match, receives}
use Rattle.net_sim.proofs.lemmas.{box_same, flow_of}
use Rattle.world_keeps_streams.specs.Rests.{AreAtRest, AllRest}
use Rattle.interface.specs.Mailboxes as mail
use Rattle.stream_law.specs.Receivers.{Receiver}
use Rattle.stream_law.specs.Streams.{Box, Empty, Waiting, Taken}
use Rattle.reset_law.specs.Boxes as reset
use Rattle.reset_law.specs.Stays as stay
use Rattle.promise.specs.declared.life.Life.{Life}
use Rattle.world_keeps_streams.proofs.Books.All.{all_given}
use Rattle.world_keeps_streams.proofs.Books.Arrives.{end_at, on_link, one_end, rest_lawful, stays_of}
use Rattle.world_keeps_streams.proofs.Books.Books.{one_receiver, one_sender}
use Rattle.world_keeps_streams.proofs.Books.Clauses.{OldGranter, settled_r, settled_s}
use Rattle.world_keeps_streams.proofs.Books.Run.{Given, whole}
use Rattle.world_keeps_streams.proofs.Books.Source.{one_matches}
use Rattle.world_keeps_streams.proofs.Books.Whole.{GoesOn, HasR, HasS, PresentR, PresentS, Whole, present_in, since}
use Rattle.world_keeps_streams.proofs.Carried.Streams.{all_bits}
use Rattle.world_keeps_streams.proofs.Deeds.Effects.{Among, among_kept}
use Rattle.world_keeps_streams.proofs.Lives.Lists.{IsOf, is_of, of_drop, of_parts}
use Rattle.world_keeps_streams.proofs.Requests.Sides.{Heard, Lawful, Own, lives_in, book_lawful}
use Rattle.world_keeps_streams.proofs.Steps.Joined.{post_in}
use Rattle.world_keeps_streams.proofs.Steps.Streams.{has_receiver}
use Rattle.interface.proofs.lemmas.{unlike}
use Rattle.world_keeps_streams.proofs.Ours.{ours_sender}

free_box : (b : Box) → IsPosted Free b → waiting_in b ≡ []
free_box Empty p = refl
free_box (Waiting c size bits) p = absurd p
free_box Taken p = absurd p

fetched_box : (b : Box) → IsPosted Fetched b → waiting_in b ≡ []
fetched_box Empty p = absurd p
fetched_box (Waiting c size bits) p = absurd p
fetched_box Taken p = refl

pub suc_is : (m n : ℕ) → suc m ≡ suc n → m ≡ n
suc_is m n e = omega (arith, e)

-- a receiving life that isn't over, on its link
pub record AtLink (hosts : Network) (ms : List Moment) (x : Life) : Type 0 where
  pub ours : AreOurs hosts x.host x.peer
  pub there : Contains (lives_in ms) x
  pub receiving : receives x ≡ true
  pub goes : x.ended ≡ false
  pub end : HasOpenEnd (program x.host ms) x
  pub link : ℕ
  pub linked : end.end.link ≡ Some link

module _ (hosts : Network) (ms : List Moment) (l : Lawful hosts ms) (x : Life) (f : AtLink hosts ms x) where
  given : Given hosts x.host x.peer (Own x.host x.peer) (Heard x.host x.peer)
  given = all_given hosts x.host x.peer f.ours

  abbrev pub w : Whole x.host x.peer (Own x.host x.peer) (Heard x.host x.peer) ms
  w = whole hosts x.host x.peer (Own x.host x.peer) (Heard x.host x.peer) (all_given hosts x.host x.peer f.ours) ms l

  pub stays : stay.stays x.host x.peer (events_of ms) ≡ true
  stays = stays_of hosts ms l x f.ours f.there f.goes

  here : IsOf x (lives_in ms)
  here = is_of x (lives_in ms) f.there

  pub late : IsOf x (present_in x.host x.peer ms)
  late = elim (of_parts (since x.host x.peer ms) x (lives_in ms) here) [
    | inl early ↦ absurd (unlike x.ended (settled_r hosts x.host x.peer (Own x.host x.peer) (Heard x.host x.peer) given ms l x early refl refl f.receiving).over f.goes)
    | inr there ↦ there
  ]

  -- ---- its end and its connection

  pub at_it : Among f.end.end (pair_with x.peer (program x.host ms).peers).entries × (is_mine_on x.socket f.end.end ≡ true)
  at_it = end_at x (program x.host ms) f.end

  parts : (f.end.end.mine ≡ true) × ((f.end.end.own == x.socket) ≡ true)
  parts = both f.end.end.mine (f.end.end.own == x.socket) at_it.1

  pub own : f.end.end.own ≡ x.socket
  own = eqb-true f.end.end.own x.socket parts.1

  -- the life's own connection on its link, by whatever way it is known
  pub is_here : (n g : ℕ) → GoesOn x.host x.peer (Own x.host x.peer) (Heard x.host x.peer) ms w.j n g x → (f.link ≡ suc n) × (numbered x.socket x.foreign g ≡ name_now numbered x.peer (own_calls x.host x.peer ms) x.socket x.foreign)
  is_here n g o =
      (some_is f.link (suc n) (sym f.linked ∙ o.linked f.end.end at_it.0 parts.0 own), ap (λ (k : ℕ). numbered x.socket x.foreign k) o.gone)

  abbrev pub known : PresentR x.host x.peer (Own x.host x.peer) (Heard x.host x.peer) ms w.j x
  known = w.receiving x late refl refl f.receiving

  abbrev pub n : ℕ
  n = (w.receiving x late refl refl f.receiving).link

  abbrev pub c : ℕ
  c = numbered x.socket x.foreign (w.receiving x late refl refl f.receiving).g

  pub going : GoesOn x.host x.peer (Own x.host x.peer) (Heard x.host x.peer) ms w.j n (w.receiving x late refl refl f.receiving).g x
  going = (w.receiving x late refl refl f.receiving).going f.goes

  pub place : (f.link ≡ suc n) × (c ≡ name_now numbered x.peer (own_calls x.host x.peer ms) x.socket x.foreign)
  place = is_here n (w.receiving x late refl refl f.receiving).g going

  pub place_is : f.link ≡ suc n
  place_is = place.0

  off : (suc n == 0) ≡ false
  off = ne_eqb (suc n) 0 (λ e. absurd (cc))

  -- the law's receiver of the link has it as the program has its end
  pub law : IsReceiver (name_now numbered x.peer (own_calls x.host x.peer ms) f.end.end.own f.end.end.foreign) f.end.end (receiver_now numbered x.peer (suc n) (own_calls x.host x.peer ms))
  law =
      let has : HasReceiver (name_now numbered x.peer (own_calls x.host x.peer ms)) (suc n) (pair_with x.peer (program x.host ms).peers).entries (receiver_now numbered x.peer (suc n) (own_calls x.host x.peer ms)) =
      has_receiver hosts l.0 (suc n) off x.host x.peer f.ours ms l.1 l.2 in
      (one_end (name_now numbered x.peer (own_calls x.host x.peer ms)) f.end.end (filter (receives_on (suc n)) (pair_with x.peer (program x.host ms).peers).entries) (receiver_now numbered x.peer (suc n) (own_calls x.host x.peer ms)) has
      (among_kept (receives_on (suc n)) (pair_with x.peer (program x.host ms).peers).entries f.end.end at_it.0 (on_link (suc n) f.end.end x own f.receiving (f.linked ∙ ap (λ (k : ℕ). Some k) place.0)))).1

  pub name_is : name_now numbered x.peer (own_calls x.host x.peer ms) f.end.end.own f.end.end.foreign ≡ c
  name_is =
      ap (λ (k : ℕ). name_now numbered x.peer (own_calls x.host x.peer ms) k f.end.end.foreign) own
      ∙ ap (λ (k : ℕ). name_now numbered x.peer (own_calls x.host x.peer ms) x.socket k) f.end.foreign ∙ sym place.1

  pub same : (w.j n).x.receiver ≡ receiver_now numbered x.peer (suc n) (own_calls x.host x.peer ms)
  same = (w.j n).received_a stays

  -- ---- the sending life

  some_sent : (ts : List (List Bool)) → (ts ≡ [] → ⊥) → 1 ≤ length ts
  some_sent [] some = absurd (some refl)
  some_sent (t ∷ ts) some = omega arith

  module _ (s : Life) (there : Contains (lives_in ms) s) (m : Match (crossings_of ms) x s) where
    s_in : IsOf s (lives_in ms)
    s_in = is_of s (lives_in ms) there

    only : (r : Life) → IsOf r (lives_in ms) → Match (crossings_of ms) r s → x ≡ r
    only r i k = one_receiver hosts ms l x r s (ours_sender hosts m f.ours) here i m k

    -- where something was sent in the connection
    some_there : (((w.j n).x.sender.sent c) ≡ [] → ⊥) → (s.bits ≡ all_bits ((w.j n).x.sender.sent c)) × (s.messages ≡ length ((w.j n).x.sender.sent c))
    some_there some =
        let h : HasS x.host x.peer (Own x.host x.peer) (Heard x.host x.peer) ms w.j n c = w.has_sender n c some in
        let matches : Match (crossings_of ms) x h.life =
        one_matches x.host x.peer (Own x.host x.peer) (Heard x.host x.peer) ms (given.matched ms l) w x h.life known.g h.is.g late h.there (refl, refl) (h.host, h.peer) f.receiving h.name known.own h.is.heard in
        let one : h.life ≡ s = one_sender hosts ms l x h.life s f.ours (of_drop (since x.host x.peer ms) h.life (lives_in ms) h.there) s_in matches m in
        let bits : h.life.bits ≡ all_bits ((w.j n).x.sender.sent c) = h.is.gave.bits ∙ ap (λ (k : ℕ). all_bits ((w.j k).x.sender.sent (numbered h.life.foreign h.life.socket h.is.g))) h.link ∙ ap (λ (k : ℕ). all_bits ((w.j n).x.sender.sent k)) h.name in
        let messages : h.life.messages ≡ length ((w.j n).x.sender.sent c) =
        h.is.gave.messages ∙ ap (λ (k : ℕ). length ((w.j k).x.sender.sent (numbered h.life.foreign h.life.socket h.is.g))) h.link ∙ ap (λ (k : ℕ). length ((w.j n).x.sender.sent k)) h.name in
        (ap (λ (y : Life). y.bits) (sym one) ∙ bits, ap (λ (y : Life). y.messages) (sym one) ∙ messages)

    -- a sending life that sent something did so in the connection of the life
    module _ (p : PresentS x.host x.peer (Own x.host x.peer) (Heard x.host x.peer) ms w.j s) (i : IsOf s (present_in x.host x.peer ms)) (some : (w.j p.link).x.sender.sent (numbered s.foreign s.socket p.g) ≡ [] → ⊥) where
      granter : HasR x.host x.peer (Own x.host x.peer) (Heard x.host x.peer) ms w.j p.link (numbered s.foreign s.socket p.g)
      granter =
          let safe : IsSafe (w.j p.link).x (numbered s.foreign s.socket p.g) = safe_inv (w.j p.link).x (w.j p.link).joint.inv_x (numbered s.foreign s.socket p.g) in
          let one : 1 ≤ length ((w.j p.link).x.sender.sent (numbered s.foreign s.socket p.g)) = some_sent ((w.j p.link).x.sender.sent (numbered s.foreign s.socket p.g)) some in
          let in_messages : length ((w.j p.link).x.sender.sent (numbered s.foreign s.socket p.g)) + ((w.j p.link).x.receiver.returned (numbered s.foreign s.socket p.g)).messages ≤ ((w.j p.link).x.receiver.granted (numbered s.foreign s.socket p.g)).messages
          = safe.sent.in_messages in
          w.has_receiver p.link (numbered s.foreign s.socket p.g) (omega (arith, one, in_messages))

      it_is : x ≡ granter.life
      it_is =
          only granter.life (of_drop (since x.host x.peer ms) granter.life (lives_in ms) granter.there)
          (one_matches x.host x.peer (Own x.host x.peer) (Heard x.host x.peer) ms (given.matched ms l) w granter.life s granter.is.g p.g granter.there i (granter.host, granter.peer) (sym m.peers.0, m.peers.1) granter.kind (sym granter.name) granter.is.own p.heard)

      found : (link k : ℕ) (y : Life) → x ≡ y → GoesOn x.host x.peer (Own x.host x.peer) (Heard x.host x.peer) ms w.j link k y → (f.link ≡ suc link) × (numbered y.socket y.foreign k ≡ name_now numbered x.peer (own_calls x.host x.peer ms) x.socket x.foreign)
      found link k y e o =
          subst (λ (z : Life). GoesOn x.host x.peer (Own x.host x.peer) (Heard x.host x.peer) ms w.j link k z → (f.link ≡ suc link) × (numbered z.socket z.foreign k ≡ name_now numbered x.peer (own_calls x.host x.peer ms) x.socket x.foreign)) e (is_here link k) o

      at : (f.link ≡ suc granter.is.link) × (numbered granter.life.socket granter.life.foreign granter.is.g ≡ name_now numbered x.peer (own_calls x.host x.peer ms) x.socket x.foreign)
      at = found granter.is.link granter.is.g granter.life it_is (granter.is.going (ap (λ (y : Life). y.ended) (sym it_is) ∙ f.goes))

      link_same : p.link ≡ n
      link_same = sym granter.link ∙ suc_is granter.is.link n (sym at.0 ∙ place.0)

      name_same : numbered s.foreign s.socket p.g ≡ c
      name_same = sym granter.name ∙ at.1 ∙ sym place.1

      some_here : (w.j n).x.sender.sent c ≡ [] → ⊥
      some_here none = some (ap (λ (k : ℕ). (w.j k).x.sender.sent (numbered s.foreign s.socket p.g)) link_same ∙ ap (λ (k : ℕ). (w.j n).x.sender.sent k) name_same ∙ none)

    -- where nothing was
    none_there : (w.j n).x.sender.sent c ≡ [] → (s.messages ≡ 0) × (s.bits ≡ [])
    none_there none = elim (of_parts (since x.host x.peer ms) s (lives_in ms) s_in) [
      | inl early ↦ old (settled_s hosts x.host x.peer (Own x.host x.peer) (Heard x.host x.peer) given ms l s early (sym m.peers.0) m.peers.1 m.sending).granted
      | inr i ↦ new (w.sending s i (sym m.peers.0) m.peers.1 m.sending) i
    ] where
      old : ((s.messages ≡ 0) × (s.bits ≡ [])) ⊎ OldGranter ms s → (s.messages ≡ 0) × (s.bits ≡ [])
      old (inl e) = e
      old (inr o) = absurd (unlike x.ended (ap (λ (y : Life). y.ended) (only o.receiver o.there o.matches) ∙ o.over) f.goes)

      new : (p : PresentS x.host x.peer (Own x.host x.peer) (Heard x.host x.peer) ms w.j s) → IsOf s (present_in x.host x.peer ms) → (s.messages ≡ 0) × (s.bits ≡ [])
      new p i = by ((w.j p.link).x.sender.sent (numbered s.foreign s.socket p.g)) refl where
        by : (ts : List (List Bool)) → (w.j p.link).x.sender.sent (numbered s.foreign s.socket p.g) ≡ ts → (s.messages ≡ 0) × (s.bits ≡ [])
        by [] e = (p.gave.messages ∙ ap (λ (ts : List (List Bool)). length ts) e, p.gave.bits ∙ ap all_bits e)
        by (t ∷ ts) e = absurd (some_here p i (λ empty. absurd (let no : t ∷ ts ≡ [] = sym e ∙ empty in cc)) none)

    -- it has what the law's sender has of the connection
    pub gave : (s.bits ≡ all_bits ((w.j n).x.sender.sent c)) × (s.messages ≡ length ((w.j n).x.sender.sent c))
    gave = by ((w.j n).x.sender.sent c) refl where
      by : (ts : List (List Bool)) → (w.j n).x.sender.sent c ≡ ts → (s.bits ≡ all_bits ((w.j n).x.sender.sent c)) × (s.messages ≡ length ((w.j n).x.sender.sent c))
      by [] e =
          let z : (s.messages ≡ 0) × (s.bits ≡ []) = none_there e in
          (z.1 ∙ sym (ap all_bits e), z.0 ∙ sym (ap (λ (ts : List (List Bool)). length ts) e))
      by (t ∷ ts) e = some_there (λ empty. absurd (let no : t ∷ ts ≡ [] = sym e ∙ empty in cc))

  -- ---- so all was taken

  module _ (all : (w.j n).x.receiver.taken c ≡ (w.j n).x.sender.sent c) where
    one_close : (s : Life) → Contains (lives_in ms) s → Match (crossings_of ms) x s → (x.bits ≡ s.bits) × (x.messages ≡ s.messages)
    one_close s there m =
        let g : (s.bits ≡ all_bits ((w.j n).x.sender.sent c)) × (s.messages ≡ length ((w.j n).x.sender.sent c)) = gave s there m in
        (going.bits ∙ ap all_bits all ∙ sym g.0, going.messages ∙ ap (λ (ts : List (List Bool)). length ts) all ∙ sym g.1)

-- ---- a receiving life at rest

module _ (hosts : Network) (ms : List Moment) (l : Lawful hosts ms) (x s : Life) (ours : AreOurs hosts x.host x.peer)
    (f : AreAtRest ms x s) where
  abbrev pub at_rest : AtLink hosts ms x
  at_rest = record { ours = ours; there = f.there; receiving = f.matches.receiving; goes = f.goes; end = f.end; link = f.link; linked = f.linked }

  abbrev link_here : ℕ
  link_here = n hosts ms l x at_rest

  abbrev number : ℕ
  number = c hosts ms l x at_rest

  pub sender_stays : stay.stays x.peer x.host (events_of ms) ≡ true
  sender_stays =
      subst (λ (g : Host). stay.stays g x.host (events_of ms) ≡ true) (sym f.matches.peers.0)
      (subst (λ (g : Host). stay.stays s.host g (events_of ms) ≡ true) f.matches.peers.1 (stays_of hosts ms l s (ours_sender hosts f.matches ours) f.sender_there f.sender_goes))

  posted : IsPosted (post_in (boxes x.peer x.host (events_of ms) (suc link_here))) ((w hosts ms l x at_rest).j link_here).x.box
  posted = ((w hosts ms l x at_rest).j link_here).joint.box_x.whole sender_stays

  box_is : boxes x.peer x.host (events_of ms) (suc link_here) ≡ seen_box (suc link_here) (box_of (flow_of x.peer x.host (suc link_here)) (crossings_of ms))
  box_is = box_same x.peer x.host ms (suc link_here)

  pub empty : waiting_in ((w hosts ms l x at_rest).j link_here).x.box ≡ []
  empty = by (box_of (flow_of x.peer x.host (suc link_here)) (crossings_of ms)) refl where
    by : (b : mail.Box) → box_of (flow_of x.peer x.host (suc link_here)) (crossings_of ms) ≡ b → waiting_in ((w hosts ms l x at_rest).j link_here).x.box ≡ []
    by mail.Empty e = free_box ((w hosts ms l x at_rest).j link_here).x.box (subst (λ (b : reset.Box). IsPosted (post_in b) ((w hosts ms l x at_rest).j link_here).x.box) (box_is ∙ ap (seen_box (suc link_here)) e) posted)
    by (mail.Taken there text) e = fetched_box ((w hosts ms l x at_rest).j link_here).x.box (subst (λ (b : reset.Box). IsPosted (post_in b) ((w hosts ms l x at_rest).j link_here).x.box) (box_is ∙ ap (seen_box (suc link_here)) e) posted)
    by (mail.Waiting there text) e =
        absurd (f.silent there text (subst (λ (k : ℕ). box_of (flow_of x.peer x.host k) (crossings_of ms) ≡ mail.Waiting there text) (sym (place_is hosts ms l x at_rest)) e))

  pub is_law : IsReceiver (c hosts ms l x at_rest) f.end.end (receiver_now numbered x.peer (suc link_here) (own_calls x.host x.peer ms))
  is_law = subst (λ (k : ℕ). IsReceiver k f.end.end (receiver_now numbered x.peer (suc link_here) (own_calls x.host x.peer ms))) (name_is hosts ms l x at_rest) (law hosts ms l x at_rest)

  caught_up : ((w hosts ms l x at_rest).j link_here).x.sender.sent number ≡ ((w hosts ms l x at_rest).j link_here).x.receiver.taken number ++ waiting_in ((w hosts ms l x at_rest).j link_here).x.box
  caught_up =
      ((w hosts ms l x at_rest).j link_here).joint.inv_x.arrivals.whole number (ap (λ (r : Receiver). r.end) (same hosts ms l x at_rest) ∙ is_law.end) (ap (λ (r : Receiver). r.closed) (same hosts ms l x at_rest) ∙ is_law.closed ∙ (open_parts f.end.end f.opened).unclosed)
      (ap (λ (r : Receiver). r.over number) (same hosts ms l x at_rest) ∙ is_law.over ∙ (open_parts f.end.end f.opened).unheard)

  all_taken : ((w hosts ms l x at_rest).j link_here).x.receiver.taken number ≡ ((w hosts ms l x at_rest).j link_here).x.sender.sent number
  all_taken = sym (caught_up ∙ ap (λ (ts : List (List Bool)). ((w hosts ms l x at_rest).j link_here).x.receiver.taken number ++ ts) empty ∙ append-nil (((w hosts ms l x at_rest).j link_here).x.receiver.taken number))

  pub rests : (x.bits ≡ s.bits) × (x.messages ≡ s.messages)
  rests = one_close hosts ms l x at_rest all_taken s f.sender_there f.matches

-- ---- at all moments, and in worlds

all_rest : (hosts : Network) (ms : List Moment) → Lawful hosts ms → (later earlier : List Moment)
    → ms ≡ later ++ earlier → (x s : Life) → AreOurs hosts x.host x.peer → AreAtRest earlier x s
    → (x.bits ≡ s.bits) × (x.messages ≡ s.messages)
all_rest hosts ms l later earlier is x s ours f = rests hosts earlier (rest_lawful hosts later earlier (subst (λ (ns : List Moment). Lawful hosts ns) is l)) x s ours f

pub world_rests : {C : Type 0} (seen : C → Seen) (hosts : List Host) (w : WorldState C) → (lawful : IsLawful seen hosts w) → AllRest lawful.whole.moments
world_rests seen hosts w lawful later earlier is x s = all_rest (all_ours hosts) lawful.whole.moments (book_lawful seen hosts w lawful) later earlier is x s (refl, refl)
