-- A sending life that isn't over where the receiving life has taken its CLS, then or later, closed first: its CLS has gone out, and it has taken none.
use Rattle.world_keeps_streams.proofs.Common.{◌≡◌, inl, inr, ℕ, ◌+◌, ◌<◌, ◌≤◌, ◌&&◌, ◌==◌, Bool, true, false, List, [], ◌∷◌, ◌++◌, length, Option, Some, None, refl, ap, sym, subst, ◌∙◌, arith, eqb-true, length-append, Contains, Host, Crossing, is_send_socket, entry_at, has_cls, is_sent, Closing, Entry, both, gone_now, counted, has_heard, placed_event, Side, Joined, asks_said, count, closes_said, begins_either, NcpState, pair_with, Moment, event_in, events_of, program, crossings_of, Coupled, place_same, HasOpenEnd, law_events, origin_in, place_or, steps, own_calls, IsClosedByPartner, Network, AreOurs}
use Rattle.pairing_law.specs.Links.{Sockets, receiver, sender, Receiver, Sender}
use Rattle.pairing_law.specs.Marks.{Asks, Mark, closes}
use Rattle.reset_law.specs.Events.{place}
use Rattle.promise.specs.Safe.{Match, Name, control_flow, last_out, before, named, sends}
use Rattle.world_keeps_lives.specs.Drained.{ClosesFirst}
use Rattle.world_keeps_pairing.proofs.lemmas.{Tie, all_says, all_tied, are_origins, at_texts, receiver_half, served_in, IsPair}
use Rattle.host_pairs.specs.declared.entry.Closing.TheVariants as closing
use Rattle.reset_law.specs.Stays as stay
use Rattle.promise.specs.declared.life.Life.{Life}
use Rattle.world_keeps_streams.proofs.Deeds.Effects.{Among}
use Rattle.world_keeps_streams.proofs.Heard.Run.{heard_closes}
use Rattle.world_keeps_streams.proofs.Lives.Left.{found_tied}
use Rattle.world_keeps_streams.proofs.Lives.Lists.{IsOf, Named, contains, is_of}
use Rattle.world_keeps_streams.proofs.Requests.Names.{origin_grows}
use Rattle.world_keeps_streams.proofs.Requests.Now.{heard_now, joined_halves, now_gone}
use Rattle.world_keeps_streams.proofs.Requests.Sides.{Heard, Lawful, Own, begins_same, coupled_in, law_joined, lives_in}
use Rattle.world_keeps_streams.proofs.Books.Arrives.{end_at, rest_lawful, stays_of}
use Rattle.world_keeps_streams.proofs.Books.Closes.{AtLink, known}
use Rattle.world_keeps_streams.proofs.Books.Counts as counts_of
use Rattle.world_keeps_streams.proofs.Books.Counts.{Counted, side_of}
use Rattle.world_keeps_streams.proofs.Books.Ended.{all_crossings}
use Rattle.world_keeps_streams.proofs.Books.Given.{counts}
use Rattle.world_keeps_streams.proofs.Books.Later.{one_number}
use Rattle.world_keeps_streams.proofs.Books.Parted.{grows_by, said_now}
use Rattle.world_keeps_streams.proofs.Books.Unasked.{asked_by, of_event, own_below, said_new}
use Rattle.world_keeps_streams.proofs.Ours.{live, ours_of}

pub sent_cls : (c : Closing) → is_sent c ≡ true → has_cls c ≡ true
sent_cls closing.Queued e = refl
sent_cls c e = e

-- ---- two hosts that haven't met since some moments

abbrev NoneMeet : Host → Host → List Moment → List Moment → Type 0
NoneMeet a b [] older = Unit {0}
NoneMeet a b (y ∷ newer) older = (stay.begins a b (event_in y) (events_of (newer ++ older)) ≡ false) × NoneMeet a b newer older

longer : (newer older : List Moment) → length (crossings_of older) ≤ length (crossings_of (newer ++ older))
longer newer older =
    let e : length (crossings_of (newer ++ older)) ≡ length (crossings_of newer) + length (crossings_of older) =
    ap (λ (log : List Crossing). length log) (all_crossings newer older) ∙ length-append (crossings_of newer) (crossings_of older) in
    omega (arith, e)

module _ (a b : Host) (s : Sockets) (q : IsPair s) where
  -- a request of before these moments was said before them, and both haven't met since
  said_before : (newer older : List Moment) (k n : ℕ) → n < length (crossings_of older) → Asks k n (side_of s Receiver a b (newer ++ older)).said
      → NoneMeet a b newer older × Asks k n (side_of s Receiver a b older).said
  said_before [] older k n less asks = (tt, asks)
  said_before (y ∷ newer) older k n less asks = by (stay.begins a b (event_in y) (events_of (newer ++ older))) refl (said_before newer older k n less) where
    by : (v : Bool) → stay.begins a b (event_in y) (events_of (newer ++ older)) ≡ v
        → (Asks k n (side_of s Receiver a b (newer ++ older)).said → NoneMeet a b newer older × Asks k n (side_of s Receiver a b older).said)
        → NoneMeet a b (y ∷ newer) older × Asks k n (side_of s Receiver a b older).said
    by true new rest = absurd (subst (λ (word : List Mark). Asks k n word) (said_new s Receiver a b y (newer ++ older) new) asks)
    by false none rest =
        let begins : stay.begins a b (placed_event (event_in y) (events_of (newer ++ older))) (law_events (newer ++ older)) ≡ false =
        begins_same a b (event_in y) (events_of (newer ++ older)) ∙ none in
        let spoke : Asks k n (all_says (at_texts s Receiver (stay.said_by a b 0 (placed_event (event_in y) (events_of (newer ++ older))))) (side_of s Receiver a b (newer ++ older))).said =
        subst (λ (word : List Mark). Asks k n word)
        (said_now a b (at_texts s Receiver) (at_texts s Sender) (placed_event (event_in y) (events_of (newer ++ older))) (law_events (newer ++ older)) (side_of s Receiver a b (newer ++ older)) begins) asks in
        elim (asked_by k n (place (events_of (newer ++ older))) (at_texts s Receiver (stay.said_by a b 0 (placed_event (event_in y) (events_of (newer ++ older))))) (side_of s Receiver a b (newer ++ older))
        (of_event s q Sender a b (event_in y) (events_of (newer ++ older))) spoke) [
          | inl new ↦
              (let here : place (events_of (newer ++ older)) ≡ length (crossings_of (newer ++ older)) = place_same (newer ++ older) in
              let more : length (crossings_of older) ≤ length (crossings_of (newer ++ older)) = longer newer older in
              absurd (omega (arith, less, here, new, more)))
          | inr old ↦ (let r : NoneMeet a b newer older × Asks k n (side_of s Receiver a b older).said = rest old in ((none, r.0), r.1))
        ]

  -- no less is said since then
  said_more : (newer older : List Moment) → NoneMeet a b newer older → closes (side_of s Sender b a older).said ≤ closes (side_of s Sender b a (newer ++ older)).said
  said_more [] older none = omega arith
  said_more (y ∷ newer) older none =
      let before_it : closes (side_of s Sender b a older).said ≤ closes (side_of s Sender b a (newer ++ older)).said = said_more newer older none.1 in
      let by_it : closes (side_of s Sender b a (newer ++ older)).said ≤ closes (side_of s Sender b a (y ∷ (newer ++ older))).said =
      grows_by s Sender b a y (newer ++ older) (begins_either b a (event_in y) (events_of (newer ++ older)) ∙ none.0) in
      omega (arith, before_it, by_it)

-- ---- a life that matches another, by what both were before

abbrev place_of : Option Name → ℕ
place_of None = 0
place_of (Some n) = n.place

place_named : (s : Life) (o : Option ℕ) → place_of (named s o) ≡ place_or 0 o
place_named s None = refl
place_named s (Some n) = refl

module _ (hosts : Network) (newer older : List Moment) (l : Lawful hosts (newer ++ older)) (x s r p : Life)
    (m : Match (crossings_of (newer ++ older)) x s) (of_receiver : Named r x) (of_sender : Named p s)
    (ours : AreOurs hosts r.host r.peer) where
  pub host : p.host ≡ r.peer
  host = sym (sym of_receiver.peer ∙ m.peers.0 ∙ of_sender.host)

  pub peer : p.peer ≡ r.host
  peer = sym of_sender.peer ∙ m.peers.1 ∙ of_receiver.host

  pub socket : p.socket ≡ r.foreign
  socket = sym (sym of_receiver.foreign ∙ m.sockets.0 ∙ of_sender.socket)

  pub foreign : p.foreign ≡ r.socket
  foreign = sym of_sender.foreign ∙ m.sockets.1 ∙ of_receiver.socket

  pub sending : sends p ≡ true
  sending = ap is_send_socket (sym of_sender.socket) ∙ m.sending

  pub answers : Contains (lives_in older) p → origin_in (crossings_of older) r.peer r.host p.partner_stamp ≡ r.own_stamp
  answers there =
      let old : Lawful hosts older = rest_lawful hosts newer older l in
      let now : origin_in (crossings_of (newer ++ older)) s.host s.peer s.partner_stamp ≡ x.own_stamp =
      sym (place_named s (last_out (control_flow s.peer s.host) (before s.partner_stamp (crossings_of (newer ++ older))))) ∙ ap place_of m.answered in
      let of_p : origin_in (crossings_of (newer ++ older)) s.host s.peer s.partner_stamp ≡ origin_in (crossings_of (newer ++ older)) p.host p.peer p.partner_stamp =
      ap (λ (h : Host). origin_in (crossings_of (newer ++ older)) h s.peer s.partner_stamp) of_sender.host
      ∙ ap (λ (h : Host). origin_in (crossings_of (newer ++ older)) p.host h s.partner_stamp) of_sender.peer
      ∙ ap (λ (n : ℕ). origin_in (crossings_of (newer ++ older)) p.host p.peer n) of_sender.partner in
      let grown : origin_in (crossings_of (newer ++ older)) p.host p.peer p.partner_stamp ≡ origin_in (crossings_of older) p.host p.peer p.partner_stamp =
      ap (λ (log : List Crossing). origin_in log p.host p.peer p.partner_stamp) (all_crossings newer older) ∙ origin_grows hosts older old (crossings_of newer) p (ours_of hosts p r.peer r.host (ours.1, ours.0) (host, peer)) there in
      ap (λ (h : Host). origin_in (crossings_of older) h r.host p.partner_stamp) (sym host)
      ∙ ap (λ (h : Host). origin_in (crossings_of older) p.host h p.partner_stamp) (sym peer)
      ∙ sym grown ∙ sym of_p ∙ now ∙ of_receiver.own

-- ---- it closed first

pub at_socket : (x : Life) (s : NcpState) (h : HasOpenEnd s x) → h.end.own ≡ x.socket
at_socket x s h = eqb-true h.end.own x.socket (both h.end.mine (h.end.own == x.socket) (end_at x s h).1).1

module _ (hosts : Network) (newer older : List Moment) (l : Lawful hosts (newer ++ older)) (r : Life) (ours : AreOurs hosts r.host r.peer) (f : IsClosedByPartner older r) (v : Life) (v_in : IsOf v (lives_in (newer ++ older))) (goes : v.ended ≡ false)
    (of_host : v.host ≡ r.peer) (of_peer : v.peer ≡ r.host) (of_socket : v.socket ≡ r.foreign) (of_foreign : v.foreign ≡ r.socket) (kind : sends v ≡ true)
    (answered : origin_in (crossings_of (newer ++ older)) r.peer r.host v.partner_stamp ≡ r.own_stamp) where
  old : Lawful hosts older
  old = rest_lawful hosts newer older l

  theirs_ours : AreOurs hosts v.host v.peer
  theirs_ours = ours_of hosts v r.peer r.host (ours.1, ours.0) (of_host, of_peer)

  abbrev s : Sockets
  s = record { receive = r.socket; send = r.foreign }

  pair : IsPair (record { receive = r.socket; send = r.foreign })
  pair = (f.receiving, ap is_send_socket (sym of_socket) ∙ kind)

  -- ---- the receiver has heard the CLS of its connection

  mine : stay.stays r.host r.peer (events_of older) ≡ true
  mine = stays_of hosts older old r ours f.there f.goes

  abbrev at_link : AtLink hosts older r
  at_link = record { ours = ours; there = f.there; receiving = f.receiving; goes = f.goes; end = f.end; link = f.link; linked = f.linked }

  abbrev g : ℕ
  g = (known hosts older old r at_link).g

  own : Own r.host r.peer older r.socket r.foreign r.own_stamp g
  own = (known hosts older old r at_link).own

  tie_r : Tie s pair Receiver r.host r.peer (origin_in (crossings_of older) r.host r.peer) older
  tie_r =
      let c : Coupled hosts older = coupled_in hosts older old in
      ((all_tied hosts (origin_in (crossings_of older)) older (are_origins 0 (crossings_of older) [] older refl) c.story c.run (served_in hosts older old.2)).tied r.host r.peer ours).receiver s pair

  heard_it : closes (side_of s Receiver r.host r.peer older).heard ≡ g + 1
  heard_it =
      let found : entry_at r.socket r.foreign (pair_with r.peer (program r.host older).peers).entries ≡ Some f.end.end =
      found_tied s pair Receiver r.host r.peer older tie_r f.end.end (end_at r (program r.host older) f.end).0 (at_socket r (program r.host older) f.end) f.end.foreign in
      let gone : g ≡ gone_now r.peer (own_calls r.host r.peer older) r.socket r.foreign = ((known hosts older old r at_link).going f.goes).gone in
      let one : counted true (gone_now r.peer (own_calls r.host r.peer older) r.socket r.foreign) ≡ gone_now r.peer (own_calls r.host r.peer older) r.socket r.foreign + 1 = omega arith in
      heard_closes s pair Receiver hosts r.host r.peer ours older old mine ∙ counts hosts older old r.host r.peer ours r.foreign r.socket
      ∙ ap (λ (o : Option Entry). counted (has_heard o) (gone_now r.peer (own_calls r.host r.peer older) r.socket r.foreign)) found
      ∙ ap (λ (t : Bool). counted t (gone_now r.peer (own_calls r.host r.peer older) r.socket r.foreign)) f.closed ∙ one ∙ ap (λ (n : ℕ). n + 1) (sym gone)

  -- so the sender has said it
  said_it : g + 1 ≤ closes (side_of s Sender r.peer r.host older).said
  said_it =
      let j : Joined (side_of s Receiver r.host r.peer older) (side_of s Sender r.peer r.host older) = joined_halves hosts older old r.host r.peer ours s pair in
      let less : closes (side_of s Receiver r.host r.peer older).heard ≤ closes (side_of s Sender r.peer r.host older).said = closes_said _ _ j.here.older in
      let is : closes (side_of s Receiver r.host r.peer older).heard ≡ g + 1 = heard_it in
      omega (arith, less, is)

  -- ---- the sending life is of the same connection

  theirs : stay.stays r.peer r.host (events_of (newer ++ older)) ≡ true
  theirs =
      subst (λ (h : Host). stay.stays h r.host (events_of (newer ++ older)) ≡ true) of_host
      (subst (λ (h : Host). stay.stays v.host h (events_of (newer ++ older)) ≡ true) of_peer (stays_of hosts (newer ++ older) l v theirs_ours (contains v (lives_in (newer ++ older)) v_in) goes))

  end : HasOpenEnd (program v.host (newer ++ older)) v
  end = live hosts (newer ++ older) l.0 l.1 l.2 v theirs_ours.0 (contains v (lives_in (newer ++ older)) v_in) goes

  among : Among end.end (pair_with r.host (program r.peer (newer ++ older)).peers).entries
  among =
      subst (λ (h : Host). Among end.end (pair_with r.host (program h (newer ++ older)).peers).entries) of_host
      (subst (λ (h : Host). Among end.end (pair_with h (program v.host (newer ++ older)).peers).entries) of_peer (end_at v (program v.host (newer ++ older)) end).0)

  end_own : end.end.own ≡ r.foreign
  end_own = at_socket v (program v.host (newer ++ older)) end ∙ of_socket

  end_foreign : end.end.foreign ≡ r.socket
  end_foreign = end.foreign ∙ of_foreign

  tie_s : Tie s pair Sender r.peer r.host (origin_in (crossings_of (newer ++ older)) r.peer r.host) (newer ++ older)
  tie_s =
      let c : Coupled hosts (newer ++ older) = coupled_in hosts (newer ++ older) l in
      ((all_tied hosts (origin_in (crossings_of (newer ++ older))) (newer ++ older) (are_origins 0 (crossings_of (newer ++ older)) [] (newer ++ older) refl) c.story c.run (served_in hosts (newer ++ older) l.2)).tied r.host r.peer ours).sender s pair

  found_s : entry_at r.foreign r.socket (pair_with r.host (program r.peer (newer ++ older)).peers).entries ≡ Some end.end
  found_s = found_tied s pair Sender r.peer r.host (newer ++ older) tie_s end.end among end_own end_foreign

  abbrev k : ℕ
  k = gone_now r.host (own_calls r.peer r.host (newer ++ older)) r.foreign r.socket

  said_v : Own r.host r.peer (newer ++ older) r.socket r.foreign r.own_stamp k
  said_v =
      let j : Joined (receiver s (steps r.host r.peer (law_events (newer ++ older)))) (sender s (steps r.host r.peer (law_events (newer ++ older)))) = law_joined hosts (newer ++ older) l r.host r.peer ours s in
      let heard : Heard r.host r.peer (newer ++ older) r.socket r.foreign v.partner_stamp k =
      heard_now hosts (newer ++ older) l r.host r.peer ours s pair (counts hosts (newer ++ older) l r.peer r.host (ours.1, ours.0)) theirs end.end found_s v.partner_stamp end.partner in
      subst (λ (n : ℕ). Own r.host r.peer (newer ++ older) r.socket r.foreign n k) answered
      (asks_said k (origin_in (crossings_of (newer ++ older)) r.peer r.host v.partner_stamp) (sender s (steps r.host r.peer (law_events (newer ++ older)))).heard
      (receiver s (steps r.host r.peer (law_events (newer ++ older)))).said j.there.older heard)

  same_stay : NoneMeet r.host r.peer newer older × Asks k r.own_stamp (side_of s Receiver r.host r.peer older).said
  same_stay =
      said_before r.host r.peer s pair newer older k r.own_stamp (own_below hosts older old r ours (is_of r (lives_in older) f.there))
      (subst (λ (x : Side). Asks k r.own_stamp x.said) (receiver_half s r.host r.peer (law_events (newer ++ older))) said_v)

  same_number : k ≡ g
  same_number =
      one_number hosts r.host r.peer ours older old r.socket r.foreign r.own_stamp k g
      (subst (λ (x : Side). Asks k r.own_stamp x.said) (sym (receiver_half s r.host r.peer (law_events older))) same_stay.1) own

  -- ---- and has said its CLS, and heard none

  here : Counted (side_of s Sender r.peer r.host (newer ++ older)).said (side_of s Sender r.peer r.host (newer ++ older)).heard (is_sent end.end.closing) end.end.partner_closed
  here =
      let j : Joined (side_of s Receiver r.host r.peer (newer ++ older)) (side_of s Sender r.peer r.host (newer ++ older)) = joined_halves hosts (newer ++ older) l r.host r.peer ours s pair in
      counts_of.counted hosts (newer ++ older) l s pair Sender r.peer r.host tie_s j.other j.floor (side_of s Receiver r.host r.peer (newer ++ older)) j.there theirs end.end among end_own end_foreign

  now_is : here.now ≡ k
  now_is =
      now_gone (closes (side_of s Sender r.peer r.host (newer ++ older)).heard) here.now k end.end.partner_closed here.heard
      (heard_closes s pair Sender hosts r.peer r.host (ours.1, ours.0) (newer ++ older) l theirs ∙ counts hosts (newer ++ older) l r.peer r.host (ours.1, ours.0) r.socket r.foreign
      ∙ ap (λ (o : Option Entry). counted (has_heard o) (gone_now r.host (own_calls r.peer r.host (newer ++ older)) r.foreign r.socket)) found_s)

  sent : is_sent end.end.closing ≡ true
  sent = by (is_sent end.end.closing) refl where
    by : (t : Bool) → is_sent end.end.closing ≡ t → t ≡ true
    by true e = refl
    by false e =
        let said : closes (side_of s Sender r.peer r.host (newer ++ older)).said ≡ here.now + 0 = here.said ∙ ap (λ (t : Bool). here.now + count t) e in
        let more : closes (side_of s Sender r.peer r.host older).said ≤ closes (side_of s Sender r.peer r.host (newer ++ older)).said = said_more r.host r.peer s pair newer older same_stay.0 in
        let least : g + 1 ≤ closes (side_of s Sender r.peer r.host older).said = said_it in
        let is : here.now ≡ k = now_is in
        let same : k ≡ g = same_number in
        absurd (omega (arith, said, more, least, is, same))

  unheard : end.end.partner_closed ≡ false
  unheard = ap (λ (t : Bool). t && end.end.partner_closed) (sym sent) ∙ here.live

  pub closes_first : ClosesFirst (newer ++ older) v
  closes_first = record { goes = goes; sending = kind; end = end; closed = sent_cls end.end.closing sent; unheard = unheard }
