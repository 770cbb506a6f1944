-- As many messages came in on the link of a receiving life that isn't over, after both its requests, as the law counts in its connection.
use Rattle.world_keeps_streams.proofs.Common.{eqb-true, length-append, Host, same_host, Flow, HostMessage, header_of, is_receive_socket, DataHeader, IsSafe, safe_inv, waiting_of, waits_of, all_received, Takes, gone_now, name_now, numbered, receiver_now, numbered_tells, Fresh, begins_fresh, stays_ready, pair_with, Asked, Crossed, Moment, event_in, events_of, program, crossings_of, keeps, mail_below, Network, AreOurs, Contains}
use Rattle.std.proofs.Common.{◌≡◌, ◌⊎◌, inl, inr, ℕ, zero, suc, ◌+◌, ◌<◌, ◌≤◌, ◌==◌, Bool, false, if◌then◌else◌, List, [], ◌∷◌, ◌++◌, length, map, Option, Some, refl, ap, sym, subst, ◌∙◌, eq-eqb, arith, max, true}
use Rattle.interface.proofs.lemmas.{same_flow-refl, same_flow-true, same_host-refl, unlike}
use Rattle.host_keeps_streams.specs.Moves.{data_received}
use Rattle.promise.specs.Formed.{texts_for, texts_of, flow_of}
use Rattle.promise.specs.Safe.{Name, own_request, receives}
use Rattle.world_keeps_lives.proofs.lemmas.{texts_one, WasAt, texts_none, texts_same}
use Rattle.world_keeps_streams.specs.Calls.{calls_by, own_calls, called}
use Rattle.std.proofs.Math.Nat.{max-le}
use Rattle.interface.specs.Flow.{same_flow}
use Rattle.interface.specs.declared.crossing.Crossing.TheVariants as crossing
use Rattle.ncp_control.specs.Phases as phases
use Rattle.stream_law.specs.Receivers as receivers
use Rattle.stream_law.specs.Receivers.{Receiver}
use Rattle.stream_law.specs.Streams.{Box}
use Rattle.host_keeps_streams.specs.Histories as calls
use Rattle.reset_law.specs.Stays as stay
use Rattle.promise.specs.declared.life.Life.{Life}
use Rattle.world_keeps_lives.specs.Firsts.{begun}
use Rattle.world_keeps_lives.proofs.lemmas.Books as books
use Rattle.world_keeps_streams.proofs.Books.All.{all_given}
use Rattle.world_keeps_streams.proofs.Books.Books.{one_own}
use Rattle.world_keeps_streams.proofs.Books.Closes as closes
use Rattle.world_keeps_streams.proofs.Books.Closes.{AtLink}
use Rattle.world_keeps_streams.proofs.Books.Firsts.{together}
use Rattle.world_keeps_streams.proofs.Books.Later.{named_request, one_number, one_stamp}
use Rattle.world_keeps_streams.proofs.Books.Lies.{Boxed, lies_there}
use Rattle.world_keeps_streams.proofs.Books.Run.{whole}
use Rattle.world_keeps_streams.proofs.Books.Unasked.{own_below, partner_below}
use Rattle.world_keeps_streams.proofs.Books.Whole.{HasR, Whole, since}
use Rattle.world_keeps_streams.proofs.Calls.Counted.{IsQuiet, count_same, flow_to, none_came, solo_untaken}
use Rattle.world_keeps_streams.proofs.Lives.Lists.{IsOf, grown, is_of, of_drop, of_left, of_map}
use Rattle.world_keeps_streams.proofs.Requests.Sides.{Heard, Lawful, Own, coupled_in, lives_in, own_on, below}
use Rattle.world_keeps_streams.proofs.Stays.Meets.{solo_there}
use Rattle.world_keeps_streams.proofs.Stays.Resets.{stays_on}
use Rattle.world_keeps_streams.proofs.Steps.Joined.{Joined}
use Rattle.world_keeps_streams.proofs.Steps.JoinedAll.{joined}
use Rattle.world_keeps_streams.proofs.Calls.Chain.{ready_both}
use Rattle.world_keeps_streams.proofs.Facts.{no_zero}
use Rattle.world_keeps_streams.proofs.Ours.{ours_of}
use Rattle.world_keeps_streams.proofs.Lives.Among.{among_now, now_kept}

max_less : (p q k : ℕ) → p < k → q < k → max p q < k
max_less p q zero i j = absurd (omega (arith, i))
max_less p q (suc k) i j = let top : max p q ≤ k = max-le (omega (arith, i)) (omega (arith, j)) in omega (arith, top)

-- ---- a message that comes on the link

more_by : (c k : ℕ) (came : ℕ → ℕ) → receivers.one_more (Some k) came c ≡ came c + (if c == k then 1 else 0)
more_by c k came = by (c == k) refl where
  by : (v : Bool) → (c == k) ≡ v → (if v then suc (came k) else came c) ≡ came c + (if v then 1 else 0)
  by true same = let one : came c ≡ came k = ap came (eqb-true c k same) in omega (arith, one)
  by false same = omega arith

-- is one of the connection whose end has it
module _ (hosts : Network) (a b : Host) (ours : AreOurs hosts a b) (m : HostMessage) (ms : List Moment)
    (l : Lawful hosts (Crossed (crossing.In m) ∷ ms)) (stays : stay.stays a b (events_of ms) ≡ true)
    (host : a ≡ m.flow.destination) (peer : b ≡ m.flow.source) (other : (m.flow.link.0 == 0) ≡ false) where
  abbrev older : Lawful hosts ms
  older = below hosts (Crossed (crossing.In m)) ms l

  abbrev j : Joined a b m.flow.link.0 ms
  j = joined m.flow.link.0 other hosts l.0 a b ours ms (mail_below hosts.all (Crossed (crossing.In m)) ms l.1) l.2.1

  boxed : Boxed m.text (joined m.flow.link.0 other hosts l.0 a b ours ms (mail_below hosts.all (Crossed (crossing.In m)) ms l.1) l.2.1).x.box
  boxed = lies_there hosts l.0 m ms l.1 l.2 a b ours (record { stays = stays; host = host; peer = peer; off_control = other })

  abbrev r : Receiver
  r = receiver_now numbered b m.flow.link.0 (own_calls a b ms)

  end : (receiver_now numbered b m.flow.link.0 (own_calls a b ms)).end ≡ Some boxed.connection
  end = ap (λ (s : Receiver). s.end) (sym (j.received_a stays)) ∙ waits_of j.x j.joint.inv_x boxed.connection boxed.size boxed.bits boxed.is

  ready : phases.is_ready (pair_with b (program a ms).peers).phase ≡ true
  ready = sym (ready_both hosts a b ms ours (coupled_in hosts ms older).story) ∙ stays_ready (events_of ms) a b stays

  mine : same_host a m.flow.destination ≡ true
  mine = subst (λ (h : Host). same_host a h ≡ true) host (same_host-refl a)

  theirs : same_host b m.flow.source ≡ true
  theirs = subst (λ (h : Host). same_host b h ≡ true) peer (same_host-refl b)

  calls_are : calls_by a b (Crossed (crossing.In m)) ms ≡ called (Takes m.flow.link.0 m.text) (pair_with b (program a ms).peers) (program a ms).listening ∷ []
  calls_are = rw (mine, theirs, ready, other) refl

  came_is : (c : ℕ) → (all_received (data_received m.flow.link.0 m.flow.link.0 m.text (header_of m.text)) (receiver_now numbered b m.flow.link.0 (own_calls a b ms))).came c
      ≡ receivers.one_more (receiver_now numbered b m.flow.link.0 (own_calls a b ms)).end (receiver_now numbered b m.flow.link.0 (own_calls a b ms)).came c
  came_is c =
      ap (λ (o : Option DataHeader). (all_received (data_received m.flow.link.0 m.flow.link.0 m.text o) (receiver_now numbered b m.flow.link.0 (own_calls a b ms))).came c) boxed.header_is
      ∙ (let same : (m.flow.link.0 == m.flow.link.0) ≡ true = eq-eqb m.flow.link.0 m.flow.link.0 refl in rw same refl)

  count_in : (c : ℕ) → (receiver_now numbered b m.flow.link.0 (calls_by a b (Crossed (crossing.In m)) ms ++ own_calls a b ms)).came c
      ≡ (receiver_now numbered b m.flow.link.0 (own_calls a b ms)).came c + (if c == boxed.connection then 1 else 0)
  count_in c =
      ap (λ (cs : List calls.Moment). (receiver_now numbered b m.flow.link.0 (cs ++ own_calls a b ms)).came c) calls_are ∙ came_is c
      ∙ ap (λ (o : Option ℕ). receivers.one_more o (receiver_now numbered b m.flow.link.0 (own_calls a b ms)).came c) end ∙ more_by c boxed.connection (receiver_now numbered b m.flow.link.0 (own_calls a b ms)).came

  -- the law counts it in the connection of the end
  pub count_one : (c : ℕ) → (receiver_now numbered b m.flow.link.0 (own_calls a b ms)).end ≡ Some c
      → (receiver_now numbered b m.flow.link.0 (calls_by a b (Crossed (crossing.In m)) ms ++ own_calls a b ms)).came c ≡ (receiver_now numbered b m.flow.link.0 (own_calls a b ms)).came c + 1
  count_one c is =
      let both : Some c ≡ Some boxed.connection = sym is ∙ end in
      let one : c ≡ boxed.connection = cc in
      let same : (c == boxed.connection) ≡ true = eq-eqb c boxed.connection one in
      count_in c ∙ rw same refl

  -- and what it has counted then was sent, and so was granted before
  pub count_granted : (c : ℕ) → (receiver_now numbered b m.flow.link.0 (calls_by a b (Crossed (crossing.In m)) ms ++ own_calls a b ms)).came c ≤ ((receiver_now numbered b m.flow.link.0 (own_calls a b ms)).granted c).messages
  count_granted c =
      let all : length (j.x.sender.sent c) ≡ j.x.receiver.came c + waiting_of c j.x.box = j.joint.inv_x.arrivals.came c in
      let box : waiting_of c j.x.box ≡ (if c == boxed.connection then 1 else 0) = ap (λ (z : Box). waiting_of c z) boxed.is in
      let safe : IsSafe j.x c = safe_inv j.x j.joint.inv_x c in
      let within : length (j.x.sender.sent c) + (j.x.receiver.returned c).messages ≤ (j.x.receiver.granted c).messages = safe.sent.in_messages in
      let was : j.x.receiver.came c ≡ (receiver_now numbered b m.flow.link.0 (own_calls a b ms)).came c = ap (λ (s : Receiver). s.came c) (j.received_a stays) in
      let granted : (j.x.receiver.granted c).messages ≡ ((receiver_now numbered b m.flow.link.0 (own_calls a b ms)).granted c).messages = ap (λ (s : Receiver). (s.granted c).messages) (j.received_a stays) in
      let now : (receiver_now numbered b m.flow.link.0 (calls_by a b (Crossed (crossing.In m)) ms ++ own_calls a b ms)).came c ≡ (receiver_now numbered b m.flow.link.0 (own_calls a b ms)).came c + (if c == boxed.connection then 1 else 0) = count_in c in
      omega (arith, all, box, within, was, granted, now)

-- ---- a receiving life that isn't over, by its names

module _ (hosts : Network) where
  record Stands (a b : Host) (link socket foreign own : ℕ) (ms : List Moment) : Type 0 where
    other : (link == 0) ≡ false
    stays : stay.stays a b (events_of ms) ≡ true
    end : (receiver_now numbered b link (own_calls a b ms)).end ≡ Some (name_now numbered b (own_calls a b ms) socket foreign)
    asked : Own a b ms socket foreign own (gone_now b (own_calls a b ms) socket foreign)

  stands : (ms : List Moment) (l : Lawful hosts ms) (x : Life) (f : AtLink hosts ms x)
      → Stands x.host x.peer f.link x.socket x.foreign x.own_stamp ms
  stands ms l x f = record {
    other = ap (λ (k : ℕ). k == 0) (closes.place_is hosts ms l x f) ∙ no_zero (closes.n hosts ms l x f);
    stays = closes.stays hosts ms l x f;
    end = subst (λ (k : ℕ). (receiver_now numbered x.peer k (own_calls x.host x.peer ms)).end ≡ Some (name_now numbered x.peer (own_calls x.host x.peer ms) x.socket x.foreign)) (sym (closes.place_is hosts ms l x f))
        ((closes.law hosts ms l x f).end ∙ ap (λ (k : ℕ). Some (name_now numbered x.peer (own_calls x.host x.peer ms) k f.end.end.foreign)) (closes.own hosts ms l x f)
        ∙ ap (λ (k : ℕ). Some (name_now numbered x.peer (own_calls x.host x.peer ms) x.socket k)) f.end.foreign);
    asked = subst (λ (g : ℕ). Own x.host x.peer ms x.socket x.foreign x.own_stamp g) (closes.going hosts ms l x f).gone (closes.known hosts ms l x f).own;
  }

  abbrev IsCounted : Host → Host → ℕ → ℕ → ℕ → ℕ → ℕ → List Moment → Type 0
  IsCounted a b link socket foreign own partner ms =
      length (texts_of true (flow_to a b link) own partner (crossings_of ms)) ≡ (receiver_now numbered b link (own_calls a b ms)).came (name_now numbered b (own_calls a b ms) socket foreign)

  -- what holds of a life holds by its names
  named_as : (P : Host → Host → ℕ → ℕ → ℕ → ℕ → Type 0) (x : Life) (ms : List Moment) (link : ℕ) (w : WasAt hosts (together hosts) ms x link) → P w.life.host w.life.peer w.life.socket w.life.foreign w.life.own_stamp w.life.partner_stamp
      → P x.host x.peer x.socket x.foreign x.own_stamp x.partner_stamp
  named_as P x ms link w h =
      subst (λ (k : Host). P k x.peer x.socket x.foreign x.own_stamp x.partner_stamp) (sym w.host)
      (subst (λ (k : Host). P w.life.host k x.socket x.foreign x.own_stamp x.partner_stamp) (sym w.peer)
      (subst (λ (k : ℕ). P w.life.host w.life.peer k x.foreign x.own_stamp x.partner_stamp) (sym w.socket)
      (subst (λ (k : ℕ). P w.life.host w.life.peer w.life.socket k x.own_stamp x.partner_stamp) (sym w.foreign)
      (subst (λ (k : ℕ). P w.life.host w.life.peer w.life.socket w.life.foreign k x.partner_stamp) (sym w.own) (subst (λ (k : ℕ). P w.life.host w.life.peer w.life.socket w.life.foreign w.life.own_stamp k) (sym w.partner) h)))))

  -- ---- one moment more

  kinds : (a b : Host) (link : ℕ) (y : Moment) → IsQuiet a b link y ⊎ ((m : HostMessage) × (y ≡ Crossed (crossing.In m)) × (flow_to a b link ≡ m.flow))
  kinds a b link (Crossed (crossing.In m)) = by (same_flow (flow_to a b link) m.flow) refl where
    by : (v : Bool) → same_flow (flow_to a b link) m.flow ≡ v → ((if same_flow (flow_to a b link) m.flow then m.text ∷ [] else []) ≡ []) ⊎ ((n : HostMessage) × (Crossed (crossing.In m) ≡ Crossed (crossing.In n)) × (flow_to a b link ≡ n.flow))
    by true e = inr (m, refl, same_flow-true (flow_to a b link) m.flow e)
    by false e = inl (rw e refl)
  kinds a b link (Crossed (crossing.Out m)) = inl refl
  kinds a b link (Crossed (crossing.Answer kind f)) = inl refl
  kinds a b link (Crossed (crossing.Down h)) = inl refl
  kinds a b link (Crossed (crossing.Up h)) = inl refl
  kinds a b link (Asked h r) = inl tt

  quiet_texts : (a b : Host) (link own partner : ℕ) (y : Moment) (ms : List Moment) → IsQuiet a b link y
      → texts_of true (flow_to a b link) own partner (crossings_of (y ∷ ms)) ≡ texts_of true (flow_to a b link) own partner (crossings_of ms)
  quiet_texts a b link own partner (Crossed c) ms quiet = texts_same true (flow_to a b link) own partner c (crossings_of ms) quiet
  quiet_texts a b link own partner (Asked h r) ms quiet = refl

  text_of_flow : (f g : Flow) (text : List Bool) → same_flow f g ≡ true → (if same_flow f g then text ∷ [] else []) ≡ text ∷ []
  text_of_flow f g text e = rw e refl

  module _ (y : Moment) (ms : List Moment) (l : Lawful hosts (y ∷ ms)) (a b : Host) (ours : AreOurs hosts a b)
      (link socket foreign own partner : ℕ) (t : Stands a b link socket foreign own (y ∷ ms)) where
    fresh : stay.begins a b (event_in y) (events_of ms) ≡ true → Fresh a b (event_in y) (events_of ms)
    fresh new =
        begins_fresh hosts (event_in y) (events_of ms) (coupled_in hosts (y ∷ ms) l).run a b ours new

    -- what both have done, where no stay begins
    module _ (none : stay.begins a b (event_in y) (events_of ms) ≡ false) where
      kept : (keeps a b (event_in y) (events_of ms) ≡ true) × (stay.stays a b (events_of ms) ≡ true)
      kept = stays_on a b (event_in y) (events_of ms) t.stays none

      calls_now : own_calls a b (y ∷ ms) ≡ calls_by a b y ms ++ own_calls a b ms
      calls_now = own_if (keeps a b (event_in y) (events_of ms)) (calls_by a b y ms ++ own_calls a b ms) [] kept.0 where
        own_if : (v : Bool) (xs ys : List calls.Moment) → v ≡ true → (if v then xs else ys) ≡ xs
        own_if true xs ys e = refl
        own_if false xs ys e = absurd (let no : false ≡ true = e in cc)

      flow_parts : (m : HostMessage) → flow_to a b link ≡ m.flow → (a ≡ m.flow.destination) × (b ≡ m.flow.source) × (link ≡ m.flow.link.0)
      flow_parts m e = (ap (λ (f : Flow). f.destination) e, ap (λ (f : Flow). f.source) e, ap (λ (f : Flow). f.link.0) e)

      -- what is counted then was granted before
      most : (c : ℕ) → (receiver_now numbered b link (calls_by a b y ms ++ own_calls a b ms)).came c ≤ ((receiver_now numbered b link (own_calls a b ms)).granted c).messages
      most c = elim (kinds a b link y) [
        | inl quiet ↦
            (let same : (receiver_now numbered b link (calls_by a b y ms ++ own_calls a b ms)).came c ≡ (receiver_now numbered b link (own_calls a b ms)).came c = ap (λ (f : ℕ → ℕ). f c) (count_same numbered a b link (own_calls a b ms) y ms quiet) in
            let before : (receiver_now numbered b link (own_calls a b ms)).came c ≤ ((receiver_now numbered b link (own_calls a b ms)).granted c).messages = law_most c in
            omega (arith, same, before))
        | inr i ↦
            subst (λ (z : Moment). Lawful hosts (z ∷ ms) → (receiver_now numbered b link (calls_by a b z ms ++ own_calls a b ms)).came c ≤ ((receiver_now numbered b link (own_calls a b ms)).granted c).messages) (sym i.1) (taken i.0 i.2) l
      ] where
        j : Joined a b link ms
        j = joined link t.other hosts l.0 a b ours ms (mail_below hosts.all y ms l.1) l.2.1

        law_most : (c : ℕ) → (receiver_now numbered b link (own_calls a b ms)).came c ≤ ((receiver_now numbered b link (own_calls a b ms)).granted c).messages
        law_most c =
            let all : length (j.x.sender.sent c) ≡ j.x.receiver.came c + waiting_of c j.x.box = j.joint.inv_x.arrivals.came c in
            let safe : IsSafe j.x c = safe_inv j.x j.joint.inv_x c in
            let within : length (j.x.sender.sent c) + (j.x.receiver.returned c).messages ≤ (j.x.receiver.granted c).messages = safe.sent.in_messages in
            let was : j.x.receiver.came c ≡ (receiver_now numbered b link (own_calls a b ms)).came c = ap (λ (s : Receiver). s.came c) (j.received_a kept.1) in
            let granted : (j.x.receiver.granted c).messages ≡ ((receiver_now numbered b link (own_calls a b ms)).granted c).messages = ap (λ (s : Receiver). (s.granted c).messages) (j.received_a kept.1) in
            omega (arith, all, within, was, granted)

        taken : (m : HostMessage) → flow_to a b link ≡ m.flow → Lawful hosts (Crossed (crossing.In m) ∷ ms)
            → (receiver_now numbered b link (calls_by a b (Crossed (crossing.In m)) ms ++ own_calls a b ms)).came c ≤ ((receiver_now numbered b link (own_calls a b ms)).granted c).messages
        taken m e k =
            let p : (a ≡ m.flow.destination) × (b ≡ m.flow.source) × (link ≡ m.flow.link.0) = flow_parts m e in
            subst (λ (n : ℕ). (receiver_now numbered b n (calls_by a b (Crossed (crossing.In m)) ms ++ own_calls a b ms)).came c ≤ ((receiver_now numbered b n (own_calls a b ms)).granted c).messages) (sym p.2)
            (count_granted hosts a b ours m ms k kept.1 p.0 p.1 (ap (λ (n : ℕ). n == 0) (sym p.2) ∙ t.other) c)

    -- of a life that was there
    module _ (s : Stands a b link socket foreign own ms) (after : own < length (crossings_of ms)) (behind : partner < length (crossings_of ms)) (counted : IsCounted a b link socket foreign own partner ms) where
      none : stay.begins a b (event_in y) (events_of ms) ≡ false
      none = by (stay.begins a b (event_in y) (events_of ms)) refl where
        by : (v : Bool) → stay.begins a b (event_in y) (events_of ms) ≡ v → v ≡ false
        by true e = absurd (unlike (stay.stays a b (events_of ms)) s.stays (fresh e).left)
        by false e = refl

      abbrev c : ℕ
      c = name_now numbered b (own_calls a b ms) socket foreign

      name_same : name_now numbered b (own_calls a b (y ∷ ms)) socket foreign ≡ name_now numbered b (own_calls a b ms) socket foreign
      name_same =
          ap (λ (g : ℕ). numbered socket foreign g)
          (one_number hosts a b ours (y ∷ ms) l socket foreign own (gone_now b (own_calls a b (y ∷ ms)) socket foreign) (gone_now b (own_calls a b ms) socket foreign) t.asked
          (own_on a b y ms none socket foreign (gone_now b (own_calls a b ms) socket foreign) own s.asked))

      step : length (texts_of true (flow_to a b link) own partner (crossings_of (y ∷ ms))) ≡ (receiver_now numbered b link (calls_by a b y ms ++ own_calls a b ms)).came (name_now numbered b (own_calls a b ms) socket foreign)
      step = elim (kinds a b link y) [
        | inl quiet ↦ ap (λ (ts : List (List Bool)). length ts) (quiet_texts a b link own partner y ms quiet) ∙ counted ∙ sym (ap (λ (f : ℕ → ℕ). f c) (count_same numbered a b link (own_calls a b ms) y ms quiet))
        | inr i ↦
            subst (λ (z : Moment). Lawful hosts (z ∷ ms) → length (texts_of true (flow_to a b link) own partner (crossings_of (z ∷ ms))) ≡ (receiver_now numbered b link (calls_by a b z ms ++ own_calls a b ms)).came (name_now numbered b (own_calls a b ms) socket foreign)) (sym i.1) (taken i.0 i.2) l
      ] where
        taken : (m : HostMessage) → flow_to a b link ≡ m.flow → Lawful hosts (Crossed (crossing.In m) ∷ ms)
            → length (texts_of true (flow_to a b link) own partner (crossing.In m ∷ crossings_of ms)) ≡ (receiver_now numbered b link (calls_by a b (Crossed (crossing.In m)) ms ++ own_calls a b ms)).came (name_now numbered b (own_calls a b ms) socket foreign)
        taken m e k =
            let p : (a ≡ m.flow.destination) × (b ≡ m.flow.source) × (link ≡ m.flow.link.0) = flow_parts none m e in
            let here : same_flow (flow_to a b link) m.flow ≡ true = subst (λ (f : Flow). same_flow (flow_to a b link) f ≡ true) e (same_flow-refl (flow_to a b link)) in
            let one : texts_of true (flow_to a b link) own partner (crossing.In m ∷ crossings_of ms) ≡ texts_of true (flow_to a b link) own partner (crossings_of ms) ++ m.text ∷ [] =
            texts_one true (flow_to a b link) own partner (crossing.In m) (crossings_of ms) m.text after behind (text_of_flow (flow_to a b link) m.flow m.text here) in
            ap (λ (ts : List (List Bool)). length ts) one ∙ length-append (texts_of true (flow_to a b link) own partner (crossings_of ms)) (m.text ∷ []) ∙ ap (λ (n : ℕ). n + 1) counted
            ∙ sym (subst (λ (n : ℕ). (receiver_now numbered b n (own_calls a b ms)).end ≡ Some c → (receiver_now numbered b n (calls_by a b (Crossed (crossing.In m)) ms ++ own_calls a b ms)).came c ≡ (receiver_now numbered b n (own_calls a b ms)).came c + 1) (sym p.2)
            (count_one hosts a b ours m ms k s.stays p.0 p.1 (ap (λ (n : ℕ). n == 0) (sym p.2) ∙ t.other) c) s.end)

      still_counted : IsCounted a b link socket foreign own partner (y ∷ ms)
      still_counted =
          step ∙ ap (λ (cs : List calls.Moment). (receiver_now numbered b link cs).came c) (sym (calls_now none)) ∙ ap (λ (k : ℕ). (receiver_now numbered b link (own_calls a b (y ∷ ms))).came k) (sym name_same)

  -- ---- a life that begins

  length_now : (y : Moment) (ms : List Moment) → length (crossings_of (y ∷ ms)) ≤ suc (length (crossings_of ms))
  length_now (Crossed c) ms = omega arith
  length_now (Asked h r) ms = omega arith

  module _ (y : Moment) (ms : List Moment) (l : Lawful hosts (y ∷ ms)) (x : Life) (f : AtLink hosts (y ∷ ms) x)
      (begins : begun x ≡ length (crossings_of ms)) where
    abbrev a : Host
    a = x.host

    abbrev b : Host
    b = x.peer

    t : Stands x.host x.peer f.link x.socket x.foreign x.own_stamp (y ∷ ms)
    t = stands (y ∷ ms) l x f

    abbrev gone : ℕ
    gone = gone_now x.peer (own_calls x.host x.peer (y ∷ ms)) x.socket x.foreign

    abbrev number : ℕ
    number = numbered x.socket x.foreign (gone_now x.peer (own_calls x.host x.peer (y ∷ ms)) x.socket x.foreign)

    none_there : texts_of true (flow_to x.host x.peer f.link) x.own_stamp x.partner_stamp (crossings_of (y ∷ ms)) ≡ []
    none_there =
        let less : length (crossings_of (y ∷ ms)) ≤ suc (length (crossings_of ms)) = length_now y ms in
        let latest : max x.own_stamp x.partner_stamp ≡ length (crossings_of ms) = begins in
        texts_none true (flow_to x.host x.peer f.link) x.own_stamp x.partner_stamp (crossings_of (y ∷ ms)) (omega (arith, less, latest))

    -- no life of its connection was there before, so nothing was granted in it
    module _ (none : stay.begins x.host x.peer (event_in y) (events_of ms) ≡ false) where
      abbrev old : Lawful hosts ms
      old = below hosts y ms l

      abbrev w : Whole x.host x.peer (Own x.host x.peer) (Heard x.host x.peer) ms
      w = whole hosts x.host x.peer (Own x.host x.peer) (Heard x.host x.peer) (all_given hosts x.host x.peer f.ours) ms (below hosts y ms l)

      abbrev n : ℕ
      n = closes.n hosts (y ∷ ms) l x f

      stays_before : stay.stays x.host x.peer (events_of ms) ≡ true
      stays_before = (kept y ms l x.host x.peer f.ours f.link x.socket x.foreign x.own_stamp x.partner_stamp t none).1

      module _ (h : HasR x.host x.peer (Own x.host x.peer) (Heard x.host x.peer) ms w.j n number) where
        socket : h.life.socket ≡ x.socket
        socket = numbered_tells.own h.life.socket h.life.foreign h.is.g x.socket x.foreign gone h.name

        foreign : h.life.foreign ≡ x.foreign
        foreign = numbered_tells.foreign h.life.socket h.life.foreign h.is.g x.socket x.foreign gone h.name

        same_gone : h.is.g ≡ gone
        same_gone = numbered_tells.gone h.life.socket h.life.foreign h.is.g x.socket x.foreign gone h.name

        own : Own x.host x.peer (y ∷ ms) x.socket x.foreign h.life.own_stamp gone
        own =
            own_on x.host x.peer y ms none x.socket x.foreign gone h.life.own_stamp
            (subst (λ (k : ℕ). Own x.host x.peer ms k x.foreign h.life.own_stamp gone) socket
            (subst (λ (k : ℕ). Own x.host x.peer ms h.life.socket k h.life.own_stamp gone) foreign (subst (λ (k : ℕ). Own x.host x.peer ms h.life.socket h.life.foreign h.life.own_stamp k) same_gone h.is.own)))

        stamp : h.life.own_stamp ≡ x.own_stamp
        stamp = one_stamp hosts x.host x.peer f.ours (y ∷ ms) l x.socket x.foreign h.life.own_stamp x.own_stamp gone own t.asked

        h_in : IsOf h.life (lives_in ms)
        h_in = of_drop (since x.host x.peer ms) h.life (lives_in ms) h.there

        abbrev v : Life
        v = (grown y ms).change h.life

        v_in : IsOf ((grown y ms).change h.life) (lives_in (y ∷ ms))
        v_in =
            subst (λ (ys : List Life). IsOf ((grown y ms).change h.life) ys) (sym (grown y ms).is)
            (of_left ((grown y ms).change h.life) (map (grown y ms).change (lives_in ms)) (grown y ms).more (of_map (grown y ms).change h.life (lives_in ms) h_in))

        request : own_request h.life ≡ own_request x
        request =
            ap (λ (k : ℕ). let r : Name = record { place = k; own = h.life.socket; foreign = h.life.foreign } in r) stamp
            ∙ ap (λ (k : ℕ). let r : Name = record { place = x.own_stamp; own = k; foreign = h.life.foreign } in r) socket
            ∙ ap (λ (k : ℕ). let r : Name = record { place = x.own_stamp; own = x.socket; foreign = k } in r) foreign

        same : (grown y ms).change h.life ≡ x
        same =
            one_own hosts (y ∷ ms) l ((grown y ms).change h.life) x (ours_of hosts ((grown y ms).change h.life) x.host x.peer f.ours (((grown y ms).names h.life).host ∙ h.host, ((grown y ms).names h.life).peer ∙ h.peer)) f.ours v_in (is_of x (lives_in (y ∷ ms)) f.there)
            (named_request h.life ((grown y ms).change h.life) ((grown y ms).names h.life) ∙ request)

        impossible : ⊥
        impossible =
            let asked : h.life.own_stamp < length (crossings_of ms) = own_below hosts ms old h.life (ours_of hosts h.life x.host x.peer f.ours (h.host, h.peer)) h_in in
            let answered : h.life.partner_stamp < length (crossings_of ms) = partner_below hosts ms old h.life (ours_of hosts h.life x.host x.peer f.ours (h.host, h.peer)) h_in in
            let partner : x.partner_stamp ≡ h.life.partner_stamp = ap (λ (z : Life). z.partner_stamp) (sym same) ∙ ((grown y ms).names h.life).partner in
            let latest : max x.own_stamp x.partner_stamp ≡ length (crossings_of ms) = begins in
            let first : x.own_stamp < length (crossings_of ms) = (let e : h.life.own_stamp ≡ x.own_stamp = stamp in omega (arith, asked, e)) in
            let second : x.partner_stamp < length (crossings_of ms) = omega (arith, answered, partner) in
            let top : max x.own_stamp x.partner_stamp < length (crossings_of ms) = max_less x.own_stamp x.partner_stamp (length (crossings_of ms)) first second in
            absurd (omega (arith, latest, top))

      nothing_granted : ((receiver_now numbered x.peer f.link (own_calls x.host x.peer ms)).granted number).messages ≡ 0
      nothing_granted = by ((receiver_now numbered x.peer f.link (own_calls x.host x.peer ms)).granted number).messages refl where
        by : (v : ℕ) → ((receiver_now numbered x.peer f.link (own_calls x.host x.peer ms)).granted number).messages ≡ v → v ≡ 0
        by zero e = refl
        by (suc v) e =
            absurd (impossible (w.has_receiver n number
            (subst (λ (r : Receiver). 1 ≤ (r.granted number).messages) (sym ((w.j n).received_a stays_before))
            (subst (λ (k : ℕ). 1 ≤ ((receiver_now numbered x.peer k (own_calls x.host x.peer ms)).granted number).messages) (closes.place_is hosts (y ∷ ms) l x f) (omega (arith, e))))))

    none_counted : (receiver_now numbered x.peer f.link (own_calls x.host x.peer (y ∷ ms))).came number ≡ 0
    none_counted = by (stay.begins x.host x.peer (event_in y) (events_of ms)) refl where
      by : (v : Bool) → stay.begins x.host x.peer (event_in y) (events_of ms) ≡ v → (receiver_now numbered x.peer f.link (own_calls x.host x.peer (y ∷ ms))).came number ≡ 0
      by true new =
          let k : Fresh x.host x.peer (event_in y) (events_of ms) = fresh y ms l x.host x.peer f.ours f.link x.socket x.foreign x.own_stamp x.partner_stamp t new in
          none_came numbered x.peer f.link (own_calls x.host x.peer (y ∷ ms))
          (solo_untaken x.peer (own_calls x.host x.peer (y ∷ ms)) (pair_with x.peer (program x.host (y ∷ ms)).peers).queue (solo_there hosts l.0 x.host x.peer f.ours y ms l.1 l.2 k.left k.silent)) number
      by false none =
          let now : (receiver_now numbered x.peer f.link (own_calls x.host x.peer (y ∷ ms))).came number ≡ (receiver_now numbered x.peer f.link (calls_by x.host x.peer y ms ++ own_calls x.host x.peer ms)).came number =
          ap (λ (cs : List calls.Moment). (receiver_now numbered x.peer f.link cs).came number) (calls_now y ms l x.host x.peer f.ours f.link x.socket x.foreign x.own_stamp x.partner_stamp t none) in
          let within : (receiver_now numbered x.peer f.link (calls_by x.host x.peer y ms ++ own_calls x.host x.peer ms)).came number ≤ ((receiver_now numbered x.peer f.link (own_calls x.host x.peer ms)).granted number).messages =
          most y ms l x.host x.peer f.ours f.link x.socket x.foreign x.own_stamp x.partner_stamp t none number in
          let granted : ((receiver_now numbered x.peer f.link (own_calls x.host x.peer ms)).granted number).messages ≡ 0 = nothing_granted none in
          omega (arith, now, within, granted)

    begins_counted : IsCounted x.host x.peer f.link x.socket x.foreign x.own_stamp x.partner_stamp (y ∷ ms)
    begins_counted = ap (λ (ts : List (List Bool)). length ts) none_there ∙ sym none_counted

  -- ---- all moments

  counted : (ms : List Moment) (l : Lawful hosts ms) (x : Life) (f : AtLink hosts ms x)
      → IsCounted x.host x.peer f.link x.socket x.foreign x.own_stamp x.partner_stamp ms
  counted [] l x f = absurd (is_of x [] f.there)
  counted (y ∷ ms) l x f = elim (books.was_or_begins hosts (together hosts) y ms (below hosts y ms l) l x (among_now hosts (y ∷ ms) x f.ours f.there) f.goes f.end f.link f.linked) [
    | inl w ↦
        (let old : Lawful hosts ms = below hosts y ms l in
        let i : Contains (lives_in ms) w.life × AreOurs hosts w.life.host w.life.peer = now_kept hosts ms w.life w.there in
        let g : AtLink hosts ms w.life = record { ours = i.1; there = i.0; receiving = ap is_receive_socket (sym w.socket) ∙ f.receiving; goes = w.goes; end = w.end; link = f.link; linked = w.linked } in
        let after : x.own_stamp < length (crossings_of ms) = (let i : w.life.own_stamp < length (crossings_of ms) = w.asked in let e : x.own_stamp ≡ w.life.own_stamp = w.own in omega (arith, i, e)) in
        let behind : x.partner_stamp < length (crossings_of ms) = (let i : w.life.partner_stamp < length (crossings_of ms) = w.answered in let e : x.partner_stamp ≡ w.life.partner_stamp = w.partner in omega (arith, i, e)) in
        still_counted y ms l x.host x.peer f.ours f.link x.socket x.foreign x.own_stamp x.partner_stamp (stands (y ∷ ms) l x f)
        (named_as (λ h p socket foreign own partner. Stands h p f.link socket foreign own ms) x ms f.link w (stands ms old w.life g)) after behind
        (named_as (λ h p socket foreign own partner. IsCounted h p f.link socket foreign own partner ms) x ms f.link w (counted ms old w.life g)))
    | inr begins ↦ begins_counted y ms l x f begins
  ]

  -- ---- as the book has it

  -- as many messages came in for a receiving life that isn't over as the law counts
  pub came_as : (ms : List Moment) (l : Lawful hosts ms) (x : Life) (f : AtLink hosts ms x)
      → length (texts_for x f.link (crossings_of ms)) ≡ ((closes.w hosts ms l x f).j (closes.n hosts ms l x f)).x.receiver.came (closes.c hosts ms l x f)
  came_as ms l x f =
      ap (λ (g : Flow). length (texts_of (receives x) g x.own_stamp x.partner_stamp (crossings_of ms))) flow_is
      ∙ ap (λ (v : Bool). length (texts_of v (flow_to x.host x.peer f.link) x.own_stamp x.partner_stamp (crossings_of ms))) f.receiving
      ∙ counted ms l x f
      ∙ ap (λ (k : ℕ). (receiver_now numbered x.peer k (own_calls x.host x.peer ms)).came (name_now numbered x.peer (own_calls x.host x.peer ms) x.socket x.foreign)) (closes.place_is hosts ms l x f)
      ∙ ap (λ (k : ℕ). (receiver_now numbered x.peer (suc (closes.n hosts ms l x f)) (own_calls x.host x.peer ms)).came k) (sym (closes.place hosts ms l x f).1)
      ∙ ap (λ (r : Receiver). r.came (closes.c hosts ms l x f)) (sym (closes.same hosts ms l x f)) where
        flow_is : flow_of x f.link ≡ flow_to x.host x.peer f.link
        flow_is = ap (λ (v : Bool). if v then flow_to x.host x.peer f.link else record { source = x.host; destination = x.peer; link = record { 0 = f.link } }) f.receiving
