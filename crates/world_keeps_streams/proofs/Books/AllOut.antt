-- While a message waits on the link of a receiving life, the sending life that it matches isn't over if its host stays
-- (`goes_there`), and it counts all that went out there (`all_out`).
use Rattle.world_keeps_streams.proofs.Common.{◌≡◌, inl, inr, ℕ, suc, ◌+◌, ◌<◌, ◌≤◌, ◌==◌, Bool, true, false, if◌then◌else◌, List, [], ◌∷◌, length, map, filter, Option, Some, refl, ap, sym, subst, ◌∙◌, eq-eqb, arith, Contains, Host, same_host, Flow, Crossing, HostMessage, box_of, is_send_socket, sends_on, Entry, some_is, waiting_of, waits_of, IsPosted, Lies, Post, boxes, gone_now, numbered, numbered_tells, name_of, numbered_by_peer, own_calls, pair_with, Asked, Crossed, Moment, events_of, program, crossings_of, seen_box, send_odd, AreOurs, Network, AreSender, IsSentIn, linked_end, end_link, lives_among, mixed_kept}
use Rattle.interface.proofs.lemmas.{same_flow-true, unlike}
use Rattle.promise.specs.Formed.{text_of, texts_for, texts_on, flow_of, link_of}
use Rattle.promise.specs.Safe.{Match, before, receives, sends}
use Rattle.net_sim.proofs.lemmas.{box_same, flow_of as flow_from}
use Rattle.interface.specs.Flow.{same_flow}
use Rattle.interface.specs.Mailboxes as mail
use Rattle.interface.specs.declared.crossing.Crossing.TheVariants as crossing
use Rattle.stream_law.specs.Receivers.{Receiver}
use Rattle.stream_law.specs.Senders.{Sender}
use Rattle.stream_law.specs.Streams.{Box, Empty, Taken, Waiting}
use Rattle.reset_law.specs.Stays as stay
use Rattle.promise.specs.declared.life.Life.{Life}
use Rattle.world_keeps_lives.proofs.lemmas.Full.{full}
use Rattle.world_keeps_streams.proofs.Books.All.{all_given}
use Rattle.world_keeps_streams.proofs.Books.Answered.{not_empty, not_fetched}
use Rattle.world_keeps_streams.proofs.Books.Books.{one_receiver, one_sender}
use Rattle.world_keeps_streams.proofs.Books.CameIn.{came_as}
use Rattle.world_keeps_streams.proofs.Books.Closes as closes
use Rattle.world_keeps_streams.proofs.Books.Closes.{AtLink}
use Rattle.world_keeps_streams.proofs.Books.Ending.{at_link}
use Rattle.world_keeps_streams.proofs.Books.Firsts.{formed, sent_in, together}
use Rattle.world_keeps_streams.proofs.Books.Placed.{before_end, link_later}
use Rattle.world_keeps_streams.proofs.Books.Source.{one_matches}
use Rattle.world_keeps_streams.proofs.Books.Unasked.{own_below, partner_below}
use Rattle.world_keeps_streams.proofs.Books.Whole.{HasS, HasSends, Was, since, was_there}
use Rattle.world_keeps_streams.proofs.Ends.Arrived.{by_names, flows, granter, link_known, match_later, one_link}
use Rattle.world_keeps_streams.proofs.Ends.Within.{enough, texts_older}
use Rattle.world_keeps_streams.proofs.Facts.{no_zero}
use Rattle.world_keeps_streams.proofs.Lives.Lists.{IsOf, Named, contains, grown, is_of, of_drop, of_left, of_map}
use Rattle.world_keeps_streams.proofs.Lives.Among.{among_now, now_kept}
use Rattle.world_keeps_streams.proofs.Ours.{ours_receiver, ours_sender}
use Rattle.world_keeps_streams.proofs.Requests.Sides.{Heard, Lawful, Own, below, lives_in}
use Rattle.world_keeps_streams.proofs.Steps.Joined.{Joined, post_in}

-- ---- what waits in a mailbox did so before, where nothing went out on its flow

box_was : (f : Flow) (c : Crossing) (log : List Crossing) (place : ℕ) (text : List Bool) → text_of false f c ≡ []
    → box_of f (c ∷ log) ≡ mail.Waiting place text → box_of f log ≡ mail.Waiting place text
box_was f (crossing.Out m) log place text none e = by (same_flow f m.flow) refl where
  by : (v : Bool) → same_flow f m.flow ≡ v → box_of f log ≡ mail.Waiting place text
  by true is = absurd (let some : m.text ∷ [] ≡ [] = rw is at none in cc)
  by false is = rw is at e
box_was f (crossing.In m) log place text none e = by (same_flow f m.flow) refl where
  by : (v : Bool) → same_flow f m.flow ≡ v → box_of f log ≡ mail.Waiting place text
  by true is = not_fetched place text (box_of f log) (rw is at e)
  by false is = rw is at e
box_was f (crossing.Answer kind g) log place text none e = by (same_flow f g) refl where
  by : (v : Bool) → same_flow f g ≡ v → box_of f log ≡ mail.Waiting place text
  by true is = not_empty place text (rw is at e)
  by false is = rw is at e
box_was f (crossing.Down h) log place text none e = e
box_was f (crossing.Up h) log place text none e = by (same_host f.source h) refl where
  by : (v : Bool) → same_host f.source h ≡ v → box_of f log ≡ mail.Waiting place text
  by true is = not_empty place text (rw is at e)
  by false is = rw is at e

-- ---- the law's sender whose message waits has an end of the program

abbrev IsWaiting : Box → Type 0
IsWaiting box = (k : ℕ) × (z : ℕ) × (bits : List Bool) × (box ≡ Waiting k z bits)

lying : (text : List Bool) (box : Box) → IsPosted (Lies text) box → IsWaiting box
lying text Empty p = absurd p
lying text (Waiting k z bits) p = (k, z, bits, refl)
lying text Taken p = absurd p

its_end : (name : ℕ → ℕ → ℕ) (es : List Entry) (s : Sender) (k : ℕ) → AreSender name es s → s.end ≡ Some k
    → s.opened ≡ true → s.closed k ≡ false
    → (e : Entry) × (k ≡ name e.own e.foreign)
its_end name [] s k h end opened unclosed = absurd (unlike (s.closed k) (h k end opened) unclosed)
its_end name (e ∷ []) s k (inl is) end opened unclosed = (e, some_is k (name e.own e.foreign) (sym end ∙ is.end))
its_end name (e ∷ []) s k (inr leaves) end opened unclosed =
    absurd (unlike (s.closed k) (leaves.none k end opened) unclosed)
its_end name (e ∷ f ∷ es) s k h end opened unclosed = absurd h

-- ---- a message waits on the link of a receiving life

module _ (hosts : Network) (ms : List Moment) (l : Lawful hosts ms) (x : Life) (f : AtLink hosts ms x) (place : ℕ)
    (text : List Bool)
    (waits : box_of (flow_from x.peer x.host f.link) (crossings_of ms) ≡ mail.Waiting place text) where
  abbrev link_n : ℕ
  link_n = closes.n hosts ms l x f

  abbrev number : ℕ
  number = closes.c hosts ms l x f

  abbrev both_ways : Joined x.host x.peer (suc link_n) ms
  both_ways = (closes.w hosts ms l x f).j (closes.n hosts ms l x f)

  post : post_in (boxes x.peer x.host (events_of ms) (suc link_n)) ≡ Lies text
  post =
      let off : (suc link_n == 0) ≡ false = no_zero link_n in
      ap post_in (box_same x.peer x.host ms (suc link_n))
      ∙ ap (λ (b : mail.Box). post_in (seen_box (suc link_n) b))
      (subst (λ (k : ℕ). box_of (flow_from x.peer x.host k) (crossings_of ms)
      ≡ mail.Waiting place text) (closes.place_is hosts ms l x f) waits) ∙ rw off refl

  lies : IsWaiting both_ways.x.box
  lies = lying text both_ways.x.box (by (stay.stays x.peer x.host (events_of ms)) refl) where
    by : (v : Bool) → stay.stays x.peer x.host (events_of ms) ≡ v → IsPosted (Lies text) both_ways.x.box
    by true e = subst (λ (q : Post). IsPosted q both_ways.x.box) post (both_ways.joint.box_x.whole e)
    by false e = both_ways.joint.box_x.left e (closes.stays hosts ms l x f) text post

  end_is : both_ways.x.receiver.end ≡ Some number
  end_is = ap (λ (r : Receiver). r.end) (closes.same hosts ms l x f) ∙ (closes.law hosts ms l x f).end
      ∙ ap (λ (k : ℕ). Some k) (closes.name_is hosts ms l x f)

  same_number : lies.0 ≡ number
  same_number = some_is lies.0 number (sym (waits_of both_ways.x both_ways.joint.inv_x lies.0 lies.1 lies.2 lies.3)
      ∙ end_is)

  -- one more was sent than came in
  one_more : length (both_ways.x.sender.sent number) ≡ length (texts_for x f.link (crossings_of ms)) + 1
  one_more =
      let all : length (both_ways.x.sender.sent number)
      ≡ both_ways.x.receiver.came number + waiting_of number both_ways.x.box =
      both_ways.joint.inv_x.arrivals.came number in
      let here : (number == lies.0) ≡ true = eq-eqb number lies.0 (sym same_number) in
      let one : waiting_of number both_ways.x.box ≡ 1 = ap (λ (b : Box). waiting_of number b) lies.3 ∙ rw here refl in
      let came : length (texts_for x f.link (crossings_of ms)) ≡ both_ways.x.receiver.came number =
      came_as hosts ms l x f in
      omega (arith, all, one, came)

  pub some_sent : both_ways.x.sender.sent number ≡ [] → ⊥
  some_sent none =
      let zero_is : length (both_ways.x.sender.sent number) ≡ 0 = ap (λ (ts : List (List Bool)). length ts) none in
      let more : length (both_ways.x.sender.sent number) ≡ length (texts_for x f.link (crossings_of ms)) + 1 =
      one_more in
      absurd (omega (arith, zero_is, more))

  -- so there is a sending life
  abbrev pub sending : HasS x.host x.peer (Own x.host x.peer) (Heard x.host x.peer) ms
      (closes.w hosts ms l x f).j link_n number
  sending = (closes.w hosts ms l x f).has_sender (closes.n hosts ms l x f) (closes.c hosts ms l x f) some_sent

  pub sending_in : IsOf sending.life (lives_in ms)
  sending_in = of_drop (since x.host x.peer ms) sending.life (lives_in ms) sending.there

  pub sending_matches : Match (crossings_of ms) x sending.life
  sending_matches =
      one_matches x.host x.peer (Own x.host x.peer) (Heard x.host x.peer) ms
      ((all_given hosts x.host x.peer f.ours).matched ms l) (closes.w hosts ms l x f) x sending.life
      (closes.known hosts ms l x f).g sending.is.g (closes.late hosts ms l x f) sending.there
      (refl, refl) (sending.host, sending.peer) f.receiving sending.name
      (closes.known hosts ms l x f).own sending.is.heard

  module _ (s : Life) (there : IsOf s (lives_in ms)) (m : Match (crossings_of ms) x s) where
    pub sender_counts : s.messages ≡ length (texts_for x f.link (crossings_of ms)) + 1
    sender_counts = (closes.gave hosts ms l x f s (contains s (lives_in ms) there) m).1 ∙ one_more

    -- which isn't over while its host stays
    module _ (stays : stay.stays x.peer x.host (events_of ms) ≡ true) where
      abbrev gone_there : ℕ → ℕ → ℕ
      gone_there = gone_now x.host (own_calls x.peer x.host ms)

      has : HasSends x.host x.peer (Own x.host x.peer) (Heard x.host x.peer) ms link_n number
      has = (all_given hosts x.host x.peer f.ours).sent_by ms l stays link_n number (λ none. some_sent (ap (λ
          (z : Sender). z.sent number) (both_ways.sent_b stays) ∙ none))

      has_matches : Match (crossings_of ms) x has.life
      has_matches =
          one_matches x.host x.peer (Own x.host x.peer) (Heard x.host x.peer) ms
          ((all_given hosts x.host x.peer f.ours).matched ms l) (closes.w hosts ms l x f) x has.life
          (closes.known hosts ms l x f).g has.is.g (closes.late hosts ms l x f) has.there
          (refl, refl) (has.host, has.peer) f.receiving has.name (closes.known hosts ms l x f).own has.is.heard

      is_it : has.life ≡ s
      is_it = one_sender hosts ms l x has.life s f.ours (of_drop
          (since x.host x.peer ms) has.life (lives_in ms) has.there) there has_matches m

      sender_end : (e : Entry) × (lies.0 ≡ name_of numbered_by_peer gone_there e.own e.foreign)
      sender_end =
          let w : (both_ways.x.sender.end ≡ Some lies.0) × (both_ways.x.sender.opened
          ≡ true) × (both_ways.x.sender.closed lies.0 ≡ false) × (both_ways.x.sender.size lies.0 ≡ Some lies.1) =
          parts both_ways.x.sender lies.0 lies.1 (rw lies.3 at both_ways.joint.inv_x.waiting) in
          its_end (name_of numbered_by_peer gone_there) (filter (sends_on (suc link_n)) (pair_with x.host
          (program x.peer ms).peers).entries) both_ways.x.sender lies.0
          (both_ways.joint.theirs stays).holds.sent.here w.0 w.1 w.2 where
            parts : (s : Sender) (k z : ℕ) → (s.end ≡ Some k) × (s.opened ≡ true) × (s.closed k ≡ false) × (s.size k
                ≡ Some z) → (s.end ≡ Some k) × (s.opened ≡ true) × (s.closed k ≡ false) × (s.size k ≡ Some z)
            parts s k z w = w

      never : (e : Entry) → lies.0 ≡ name_of numbered_by_peer gone_there e.own e.foreign → s.ended ≡ true → ⊥
      never e name over =
          let names : numbered has.life.foreign has.life.socket has.is.g
          ≡ numbered e.foreign e.own (gone_there e.own e.foreign) = has.name ∙ sym same_number ∙ name in
          let foreign : has.life.foreign ≡ e.foreign =
          numbered_tells.own has.life.foreign has.life.socket has.is.g e.foreign e.own
          (gone_there e.own e.foreign) names in
          let own : has.life.socket ≡ e.own = numbered_tells.foreign has.life.foreign has.life.socket has.is.g
          e.foreign e.own (gone_there e.own e.foreign) names in
          let now : has.is.g ≡ gone_there e.own e.foreign =
          numbered_tells.gone has.life.foreign has.life.socket has.is.g e.foreign e.own
          (gone_there e.own e.foreign) names in
          let past : suc has.is.g ≤ gone_there has.life.socket has.life.foreign =
          has.is.gone (ap (λ (z : Life). z.ended) is_it ∙ over) in
          let also : gone_there has.life.socket has.life.foreign ≡ gone_there e.own e.foreign =
          ap (λ (k : ℕ). gone_there k has.life.foreign) own ∙ ap (λ (k : ℕ). gone_there e.own k) foreign in
          absurd (omega (arith, now, past, also))

      goes_there : s.ended ≡ false
      goes_there = by s.ended refl where
        by : (v : Bool) → s.ended ≡ v → v ≡ false
        by false e = refl
        by true e = absurd (never sender_end.0 sender_end.1 e)

-- ---- then the sending life counts all that went out on its link

abbrev IsFull : List Moment → Life → Type 0
IsFull ms s = s.messages ≡ length (texts_on s (link_of (crossings_of ms) s) (crossings_of ms))

pub link_named : (log : List Crossing) (x y : Life) → Named x y → link_of log y ≡ link_of log x
link_named log x y n = by_names (λ (z : Life). link_of log z ≡ link_of log x) x y n refl

pub flow_named : (k : ℕ) (x y : Life) → Named x y → flow_of y k ≡ flow_of x k
flow_named k x y n = by_names (λ (z : Life). flow_of z k ≡ flow_of x k) x y n refl

link_grows : (y : Moment) (ms : List Moment) (x : Life) → x.own_stamp < length (crossings_of ms)
    → x.partner_stamp < length (crossings_of ms)
    → link_of (crossings_of (y ∷ ms)) x ≡ link_of (crossings_of ms) x
link_grows (Crossed c) ms x own partner = link_later (c ∷ []) (crossings_of ms) x own partner
link_grows (Asked h r) ms x own partner = refl

pub takes_on : (x : Life) (k : ℕ) → receives x ≡ true → flow_of x k ≡ flow_from x.peer x.host k
takes_on x k kind = ap (λ (b : Bool). if b then flow_from x.peer x.host k else flow_from x.host x.peer k) kind

sends_on_link : (x : Life) (k : ℕ) → receives x ≡ false → flow_of x k ≡ flow_from x.host x.peer k
sends_on_link x k kind = ap (λ (b : Bool). if b then flow_from x.peer x.host k else flow_from x.host x.peer k) kind

module _ (hosts : Network) where
  -- a host that has left sends no data
  module _ (a b : Host) (ours : AreOurs hosts a b) (m : HostMessage) (ms : List Moment)
      (l : Lawful hosts (Crossed (crossing.Out m) ∷ ms))
      (left : stay.stays b a (events_of (Crossed (crossing.Out m) ∷ ms)) ≡ false)
      (link : ℕ) (off : (link == 0) ≡ false) (is : flow_from b a link ≡ m.flow) where
    abbrev left_log : List Crossing
    left_log = crossings_of ms

    abbrev sent_last : (z : Life) × Contains (lives_among hosts.strange (mixed_kept hosts.strange
        (Crossed (crossing.Out m) ∷ ms)).book.lives) z × IsSentIn
        (crossing.Out m ∷ crossings_of ms) (length (crossings_of ms)) m z
    sent_last = sent_in hosts (Crossed (crossing.Out m) ∷ ms) l (length (crossings_of ms)) m
        (subst (λ (g : Flow). AreOurs hosts g.source g.destination) is (ours.1, ours.0)) (inl (refl, refl))
        (ap (λ (g : Flow). g.link.0 == 0) (sym is) ∙ off)

    sent_link : (k : ℕ) × (link_of (crossing.Out m ∷ crossings_of ms) sent_last.0 ≡ Some k) × (flow_of sent_last.0 k
        ≡ m.flow)
    sent_link = link_known sent_last.0 (link_of (crossing.Out m ∷ crossings_of ms) sent_last.0) m.flow sent_last.2.flow

    sent_flow : flow_from sent_last.0.host sent_last.0.peer sent_link.0 ≡ flow_from b a link
    sent_flow = sym (sends_on_link sent_last.0 sent_link.0 sent_last.2.sending) ∙ sent_link.2 ∙ sym is

    sent_there : Contains (lives_in (Crossed (crossing.Out m) ∷ ms)) sent_last.0
        × AreOurs hosts sent_last.0.host sent_last.0.peer
    sent_there = now_kept hosts (Crossed (crossing.Out m) ∷ ms) sent_last.0 sent_last.1

    sent_was : Was b a 0 (lives_in ms) sent_last.0
    sent_was =
        was_there b a 0 (lives_in ms) (lives_in (Crossed (crossing.Out m) ∷ ms)) (omega arith)
        ((all_given hosts a b ours).away_s (Crossed (crossing.Out m)) ms l left) sent_last.0
        (is_of sent_last.0 (lives_in (Crossed (crossing.Out m) ∷ ms)) sent_there.0) (ap (λ
        (g : Flow). g.source) sent_flow) (ap (λ (g : Flow). g.destination) sent_flow)

    was_ours : AreOurs hosts sent_was.life.host sent_was.life.peer
    was_ours = subst (λ (z : Life). AreOurs hosts z.host z.peer) sent_was.is sent_there.1

    silent : ⊥
    silent =
        let old : Lawful hosts ms = below hosts (Crossed (crossing.Out m)) ms l in
        let least : sent_was.life.messages ≤ length (texts_on sent_was.life (link_of left_log sent_was.life) left_log) =
        enough (receives sent_was.life) sent_was.life.messages (texts_on sent_was.life
        (link_of left_log sent_was.life) left_log) sent_was.life.bits (formed hosts ms old sent_was.life
        (among_now hosts ms sent_was.life was_ours (contains sent_was.life (lives_in ms) sent_was.there))).bits in
        let counted : length (texts_on sent_was.life (link_of (crossing.Out m ∷ left_log) sent_was.life) (before
        (length left_log) (crossing.Out m ∷ left_log))) < sent_was.life.messages =
        subst (λ (z : Life). length (texts_on z (link_of (crossing.Out m ∷ left_log) z) (before (length left_log)
        (crossing.Out m ∷ left_log))) < z.messages) sent_was.is sent_last.2.counted in
        let same : length (texts_on sent_was.life (link_of (crossing.Out m ∷ left_log) sent_was.life) (before
        (length left_log) (crossing.Out m ∷ left_log)))
        ≡ length (texts_on sent_was.life (link_of left_log sent_was.life) left_log) =
        ap (λ (o : Option ℕ). length (texts_on sent_was.life o (before (length left_log) (crossing.Out m ∷ left_log))))
        (link_later (crossing.Out m ∷ []) left_log sent_was.life (own_below hosts ms old sent_was.life was_ours sent_was.there)
        (partner_below hosts ms old sent_was.life was_ours sent_was.there))
        ∙ ap (λ (xs : List Crossing). length (texts_on sent_was.life (link_of left_log sent_was.life) xs)) (before_end
        (crossing.Out m ∷ []) left_log) in
        absurd (omega (arith, least, counted, same))

  -- so nothing went out on the link by such a moment
  none_out : (a b : Host) → AreOurs hosts a b → (c : Crossing) (ms : List Moment) → Lawful hosts (Crossed c ∷ ms)
      → stay.stays b a (events_of (Crossed c ∷ ms)) ≡ false → (link : ℕ) → (link == 0) ≡ false
      → text_of false (flow_from b a link) c ≡ []
  none_out a b ours (crossing.Out m) ms l left link off = by (same_flow (flow_from b a link) m.flow) refl where
    by : (v : Bool) → same_flow (flow_from b a link) m.flow ≡ v → (if v then m.text ∷ [] else []) ≡ []
    by true e = absurd (silent a b ours m ms l left link off (same_flow-true (flow_from b a link) m.flow e))
    by false e = refl
  none_out a b ours (crossing.In m) ms l left link off = refl
  none_out a b ours (crossing.Answer kind g) ms l left link off = refl
  none_out a b ours (crossing.Down h) ms l left link off = refl
  none_out a b ours (crossing.Up h) ms l left link off = refl

  -- ---- the sender's host has left

  module _ (y : Moment) (ms : List Moment) (l : Lawful hosts (y ∷ ms)) (x s : Life)
      (ours : AreOurs hosts x.host x.peer) (here : IsOf x (lives_in
      (y ∷ ms))) (there : IsOf s (lives_in (y ∷ ms))) (goes : x.ended ≡ false) (m : Match (crossings_of (y ∷ ms)) x s)
      (left : stay.stays x.peer x.host (events_of (y ∷ ms)) ≡ false) (some : 1 ≤ s.messages) where
    old_lawful : Lawful hosts ms
    old_lawful = below hosts y ms l

    abbrev s_was : Was x.peer x.host 0 (lives_in ms) s
    s_was = was_there x.peer x.host 0 (lives_in ms) (lives_in (y ∷ ms)) (omega arith)
        ((all_given hosts x.host x.peer ours).away_s y ms l left) s there (sym m.peers.0) m.peers.1

    s_ours : AreOurs hosts s_was.life.host s_was.life.peer
    s_ours = subst (λ (z : Life). AreOurs hosts z.host z.peer) s_was.is (ours_sender hosts m ours)

    s_kind_was : sends s_was.life ≡ true
    s_kind_was = ap (λ (z : Life). is_send_socket z.socket) (sym s_was.is) ∙ m.sending

    s_least : 1 ≤ s_was.life.messages
    s_least = let all : s.messages ≡ s_was.life.messages =
        ap (λ (z : Life). z.messages) s_was.is in omega (arith, some, all)

    abbrev gave : (r : Life) × IsOf r (lives_in ms) × Match (crossings_of ms) r s_was.life
    gave = granter hosts ms (below hosts y ms l) s_was.life s_ours s_was.there s_kind_was s_least

    r_ours : AreOurs hosts gave.0.host gave.0.peer
    r_ours = ours_receiver hosts gave.2 s_ours

    abbrev r : Life
    r = (granter hosts ms (below hosts y ms l) s_was.life s_ours s_was.there s_kind_was s_least).0

    abbrev r_now : Life
    r_now = (grown y ms).change (granter hosts ms (below hosts y ms l) s_was.life s_ours s_was.there s_kind_was s_least).0

    r_now_in : IsOf r_now (lives_in (y ∷ ms))
    r_now_in = subst (λ (ys : List Life). IsOf r_now ys) (sym (grown y ms).is) (of_left r_now (map (grown y ms).change
        (lives_in ms)) (grown y ms).more (of_map (grown y ms).change r (lives_in ms) gave.1))

    named_end : Named s_was.life s
    named_end = subst (λ (z : Life). Named s_was.life z) (sym s_was.is) (record {
      host = refl;
      socket = refl;
      peer =
          refl;
      foreign = refl;
      own = refl;
      partner = refl;
    })

    x_is : x ≡ r_now
    x_is = one_receiver hosts (y ∷ ms) l x r_now s (ours_sender hosts m ours) here r_now_in m
        (match_later hosts (y ∷ []) ms old_lawful r s_was.life r_now s r_ours gave.1 s_was.there
        ((grown y ms).names r) named_end gave.2)

    r_names : Named r x
    r_names = subst (λ (z : Life). Named r z) (sym x_is) ((grown y ms).names r)

    r_goes : r.ended ≡ false
    r_goes = by r.ended refl where
      by : (w : Bool) → r.ended ≡ w → w ≡ false
      by false e = refl
      by true e = absurd (unlike x.ended (ap (λ (z : Life). z.ended) (x_is ∙ (grown y ms).still r e) ∙ e) goes)

    module _ (link : ℕ) (is : link_of (crossings_of (y ∷ ms)) x ≡ Some link) (off : (link == 0) ≡ false) where
      link_was : link_of (crossings_of ms) r ≡ Some link
      link_was =
          sym (link_grows y ms r (own_below hosts ms old_lawful r r_ours gave.1)
          (partner_below hosts ms old_lawful r r_ours gave.1)) ∙ sym (link_named (crossings_of (y ∷ ms)) r x r_names) ∙ is

      s_link_was : link_of (crossings_of ms) s_was.life ≡ Some link
      s_link_was = sym (one_link hosts ms old_lawful r s_was.life r_ours gave.1 s_was.there gave.2) ∙ link_was

      s_flow_was : flow_of s_was.life link ≡ flow_from x.peer x.host link
      s_flow_was = sym (flows hosts ms old_lawful r s_was.life r_ours gave.1 s_was.there gave.2 link)
          ∙ sym (flow_named link r x r_names) ∙ takes_on x link m.receiving

      -- by a moment of which nothing went out on the link
      still_full : (z : Moment) → y ≡ z → IsFull ms s_was.life
          → s_was.life.messages ≡ length (texts_on s_was.life (link_of (crossings_of (z ∷ ms)) s_was.life)
          (crossings_of (z ∷ ms)))
      still_full (Asked g q) e all = all
      still_full (Crossed c) e all =
          all
          ∙ ap (λ (o : Option ℕ). length (texts_on s_was.life o (crossings_of ms))) (sym (link_later (c ∷ [])
          (crossings_of ms) s_was.life own partner))
          ∙ ap (λ (ts : List (List Bool)). length ts) (sym (texts_older s_was.life
          (crossings_of ms) c link own partner s_link_was none)) where
            own : s_was.life.own_stamp < length (crossings_of ms)
            own = own_below hosts ms old_lawful s_was.life s_ours s_was.there

            partner : s_was.life.partner_stamp < length (crossings_of ms)
            partner = partner_below hosts ms old_lawful s_was.life s_ours s_was.there

            none : text_of (receives s_was.life) (flow_of s_was.life link) c ≡ []
            none = ap (λ (w : Bool). text_of w (flow_of s_was.life link) c) (send_odd s_was.life.socket s_kind_was)
                ∙ ap (λ (g : Flow). text_of false g c) s_flow_was
                ∙ none_out x.host x.peer ours c ms (subst (λ (w : Moment). Lawful hosts (w ∷ ms)) e l) (subst (λ
                (w : Moment). stay.stays x.peer x.host (events_of (w ∷ ms)) ≡ false) e left) link off

      waited : (z : Moment) → y ≡ z → (place : ℕ) (text : List Bool)
          → box_of (flow_from x.peer x.host link) (crossings_of (z ∷ ms)) ≡ mail.Waiting place text
          → box_of (flow_from x.peer x.host link) (crossings_of ms) ≡ mail.Waiting place text
      waited (Asked g q) e place text waits = waits
      waited (Crossed c) e place text waits =
          box_was (flow_from x.peer x.host link) c (crossings_of ms) place text
          (none_out x.host x.peer ours c ms (subst (λ (w : Moment). Lawful hosts (w ∷ ms)) e l) (subst (λ
          (w : Moment). stay.stays x.peer x.host (events_of (w ∷ ms)) ≡ false) e left) link off) waits

      by_older : (place : ℕ) (text : List Bool) → box_of (flow_from x.peer x.host link) (crossings_of (y ∷ ms))
          ≡ mail.Waiting place text
          → ((x s : Life) → AreOurs hosts x.host x.peer → IsOf x (lives_in ms) → IsOf s (lives_in ms) → x.ended ≡ false
          → Match (crossings_of ms) x s → (link : ℕ) → link_of (crossings_of ms) x ≡ Some link
          → (place : ℕ) (text : List Bool) → box_of (flow_from x.peer x.host link) (crossings_of ms)
          ≡ mail.Waiting place text → IsFull ms s) → IsFull (y ∷ ms) s
      by_older place text waits rest =
          subst (λ (z : Life). IsFull (y ∷ ms) z) (sym s_was.is)
          (still_full y refl (rest r s_was.life r_ours gave.1 s_was.there r_goes gave.2 link link_was place text
          (subst (λ (g : Flow). box_of g (crossings_of ms)
          ≡ mail.Waiting place text) flow_is (waited y refl place text waits)))) where
            flow_is : flow_from x.peer x.host link ≡ flow_from r.peer r.host link
            flow_is = ap (λ (h : Host). flow_from h x.host link) r_names.peer
                ∙ ap (λ (h : Host). flow_from r.peer h link) r_names.host

  -- ---- at all moments

  pub all_out : (ms : List Moment) → Lawful hosts ms → (x s : Life) → AreOurs hosts x.host x.peer → IsOf x (lives_in ms) → IsOf s (lives_in ms)
      → x.ended ≡ false → Match (crossings_of ms) x s → (link : ℕ) → link_of (crossings_of ms) x ≡ Some link
      → (place : ℕ) (text : List Bool) → box_of (flow_from x.peer x.host link) (crossings_of ms)
      ≡ mail.Waiting place text → IsFull ms s
  all_out [] l x s ours here there goes m link is place text waits = absurd here
  all_out (y ∷ ms) l x s ours here there goes m link is place text waits =
      by s.ended refl (all_out ms (below hosts y ms l)) where
        f : AtLink hosts (y ∷ ms) x
        f = at_link hosts (y ∷ ms) l x ours here goes m.receiving

        linked : f.link ≡ link
        linked = some_is f.link link (sym f.linked ∙ sym (end_link hosts (y ∷ ms) l (together hosts) x
            (among_now hosts (y ∷ ms) x ours f.there) goes f.end)
            ∙ is)

        waits_here : box_of (flow_from x.peer x.host f.link) (crossings_of (y ∷ ms)) ≡ mail.Waiting place text
        waits_here = subst (λ (k : ℕ). box_of (flow_from x.peer x.host k) (crossings_of (y ∷ ms))
            ≡ mail.Waiting place text) (sym linked) waits

        some : 1 ≤ s.messages
        some = let all : s.messages ≡ length (texts_for x f.link (crossings_of (y ∷ ms))) + 1 =
            sender_counts hosts (y ∷ ms) l x f place text waits_here s there m in omega (arith, all)

        off : (link == 0) ≡ false
        off =
            let k : (n : ℕ) × (f.end.end.link ≡ Some n) × ((n == 0) ≡ false) =
            linked_end hosts (together hosts) (y ∷ ms) l x
            (among_now hosts (y ∷ ms) x ours f.there) goes f.end in
            subst (λ (n : ℕ). (n == 0) ≡ false) (some_is k.0 link (sym k.1 ∙ f.linked
            ∙ ap (λ (n : ℕ). Some n) linked)) k.2

        by : (v : Bool) → s.ended ≡ v
            → ((x s : Life) → AreOurs hosts x.host x.peer → IsOf x (lives_in ms) → IsOf s (lives_in ms) → x.ended ≡ false
            → Match (crossings_of ms) x s
            → (link : ℕ) → link_of (crossings_of ms) x ≡ Some link
            → (place : ℕ) (text : List Bool) → box_of (flow_from x.peer x.host link) (crossings_of ms)
            ≡ mail.Waiting place text → IsFull ms s) → IsFull (y ∷ ms) s
        by false continues rest = full hosts (together hosts) (y ∷ ms) l s
            (among_now hosts (y ∷ ms) s (ours_sender hosts m ours) (contains s (lives_in (y ∷ ms)) there)) continues (send_odd s.socket m.sending)
        by true over rest = host (stay.stays x.peer x.host (events_of (y ∷ ms))) refl where
          host : (v : Bool) → stay.stays x.peer x.host (events_of (y ∷ ms)) ≡ v → IsFull (y ∷ ms) s
          host true on = absurd (unlike s.ended over (goes_there hosts
              (y ∷ ms) l x f place text waits_here s there m on))
          host false left = by_older y ms l x s ours here there goes m left some link is off place text waits rest
