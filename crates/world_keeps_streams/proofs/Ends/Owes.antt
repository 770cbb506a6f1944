-- Whether a life's host owes its peer an RRP, by what crosses and by its program.
use Rattle.world_keeps_streams.proofs.Common.{◌≡◌, ℕ, ◌==◌, ◌&&◌, not, Bool, true, false, if◌then◌else◌, List, [], ◌∷◌, map, take, Some, refl, ap, sym, subst, ◌∙◌, eq-eqb, Host, same_host, Answer, HostMessage, same_host-true, MayGo, Legal, Order, Wrong, orders_of, PairState, Parcel, link_for, next_of, text_for, Entry, IsReadBack, what_goes, Command, offer_read, eqb-sym, pair_with, next_is, next_pair, Asked, Crossed, IsNext, Moment, events_of, places, program, AText, AnRrp, AnRst, Sort, programs_ranged, sort_of, AreOurs, Network}
use Rattle.reset_law.specs.Events.{Begin, Hear, Message, Other, Send, Take, are, when, Call, Reply, Reset}
use Rattle.reset_law.specs.Pairs.{Pair, pair, pair_moved, pair_sent, took}
use Rattle.net_sim.specs.Projection.{Agrees, AllPlain, ArePlain, IsApart, control_message, is_rrp, is_rst, message_on, has_control, is_alone}
use Rattle.net_sim.proofs.lemmas.{data_away, plain_take, story_agrees}
use Rattle.promise.specs.Ends.{Course, Dropped, Stopped, cut, each, ended_by, fails, heard, own_asked, own_closed, partner_asked, partner_closed, said, asks_for, closes}
use Rattle.interface.specs.declared.crossing.Answer.TheVariants as answer
use Rattle.interface.specs.declared.crossing.Crossing.TheVariants as crossing
use Rattle.host_pairs.specs.Parcels as parcel
use Rattle.ncp_control.specs.declared.phase.Phase.TheVariants as phase
use Rattle.ncp_control.specs.declared.command.Command.TheVariants as command
use Rattle.sockets.specs.declared.request.Request.TheVariants as request
use Rattle.promise.specs.declared.life.Life.{Life}
use Rattle.world_keeps_streams.proofs.Ends.Courses.{course_in}
use Rattle.world_keeps_streams.proofs.Ends.Marks.{heard_plain, said_plain}
use Rattle.world_keeps_streams.proofs.Requests.Sides.{Lawful, below, coupled_in}
use Rattle.world_keeps_pairing.proofs.lemmas as served

-- ---- what a program sends

pub data Outs (q : PairState) (p : Parcel) (m : HostMessage) : Type 0 where
  AReset : (wanted : q.phase ≡ phase.Want) → (zero : m.flow.link.0 ≡ 0) → (orders : orders_of m.text ≡ Legal command.Rst ∷ []) → (is : p ≡ parcel.Reset) → Outs q p m
  AReply : (owed : q.owed ≡ true) → (zero : m.flow.link.0 ≡ 0) → (orders : orders_of m.text ≡ Legal command.Rrp ∷ []) → (is : p ≡ parcel.Reply) → Outs q p m
  Several : (count : ℕ) → (is : p ≡ parcel.Commands count) → (zero : m.flow.link.0 ≡ 0) → (orders : orders_of m.text ≡ map Legal (take count q.queue)) → Outs q p m
  AData : (e : Entry) → (size count : ℕ) → (is : p ≡ parcel.Bytes e size count) → (away : (m.flow.link.0 == 0) ≡ false) → Outs q p m

module _ (hosts : Network) (ms : List Moment) (l : Lawful hosts ms) (h : Host) (m : HostMessage)
    (n : IsNext (program h ms) m) (ours : AreOurs hosts h n.peer.host) where
  pub pair_is : pair_with n.peer.host (program h ms).peers ≡ n.peer.pair
  pair_is = next_pair _ n.peer n.parcel n.order n.next

  agrees : Agrees (pair_with n.peer.host (program h ms).peers) (pair h n.peer.host (events_of ms))
  agrees = story_agrees hosts ms h n.peer.host ours (coupled_in hosts ms l).story

  pub queue_plain : ArePlain n.peer.pair.queue
  queue_plain = subst (λ (q : PairState). ArePlain q.queue) pair_is agrees.plain

  pub next_out : next_of n.peer.pair ≡ Some n.parcel
  next_out = next_is n.peer n.parcel (program h ms).peers n.next

  pub outs : Outs n.peer.pair n.parcel m
  outs = by n.parcel refl where
    back : IsReadBack n.peer.pair n.parcel
    back = offer_read (program h ms) n.peer n.parcel (programs_ranged hosts ms (served.served_in hosts ms l.2) h ours.0) n.next

    link_is : (p : Parcel) → n.parcel ≡ p → m.flow.link.0 ≡ link_for p
    link_is p e = ap (λ (x : HostMessage). x.flow.link.0) n.message ∙ ap link_for e

    read : (p : Parcel) → n.parcel ≡ p → orders_of m.text ≡ orders_of (text_for n.peer.pair p)
    read p e = ap (λ (x : HostMessage). orders_of x.text) n.message ∙ ap (λ (x : Parcel). orders_of (text_for n.peer.pair x)) e

    may : (p : Parcel) → n.parcel ≡ p → MayGo n.peer.pair p
    may p e = what_goes n.peer.pair p (next_out ∙ ap (λ (x : Parcel). Some x) e)

    by : (p : Parcel) → n.parcel ≡ p → Outs n.peer.pair n.parcel m
    by parcel.Reset e =
        let go : MayGo n.peer.pair parcel.Reset = may parcel.Reset e in
        let again : IsReadBack n.peer.pair parcel.Reset = subst (λ (x : Parcel). IsReadBack n.peer.pair x) e back in
        AReset go.wanted (link_is parcel.Reset e) (read parcel.Reset e ∙ again) e
    by parcel.Reply e =
        let go : MayGo n.peer.pair parcel.Reply = may parcel.Reply e in
        let again : IsReadBack n.peer.pair parcel.Reply = subst (λ (x : Parcel). IsReadBack n.peer.pair x) e back in
        AReply go.owed (link_is parcel.Reply e) (read parcel.Reply e ∙ again) e
    by (parcel.Commands count) e =
        let again : IsReadBack n.peer.pair (parcel.Commands count) = subst (λ (x : Parcel). IsReadBack n.peer.pair x) e back in
        Several count e (link_is (parcel.Commands count) e) (read (parcel.Commands count) e ∙ again)
    by (parcel.Bytes d size count) e =
        let go : MayGo n.peer.pair (parcel.Bytes d size count) = may (parcel.Bytes d size count) e in
        AData d size count e
        (ap (λ (k : ℕ). k == 0) (link_is (parcel.Bytes d size count) e)
        ∙ data_away n.peer.pair d size count (subst (λ (q : PairState). has_control q.entries ≡ false) pair_is agrees.linked) go.1.linked (next_out ∙ ap (λ (x : Parcel). Some x) e))

-- ---- commands change nothing of it but RST that is taken, and RRP that goes out

owes_if : (v w : Bool) (f : Course → Course) (k j : Course) → j.owes ≡ k.owes → (f k).owes ≡ k.owes → (if v then j else (if w then f k else k)).owes ≡ k.owes
owes_if true w f k j e g = e
owes_if false true f k j e g = g
owes_if false false f k j e g = refl

module _ (x : Life) (place : ℕ) where
  said_owes : (cs : List Command) (k : Course) → ArePlain cs → (each (said x place) (map Legal cs) k).owes ≡ k.owes
  said_owes [] k h = refl
  said_owes (c ∷ cs) k h =
      said_owes cs (said x place c k) h.1 ∙ ap (λ (j : Course). j.owes) (said_plain x place c k h.0.0 h.0.1)
      ∙ owes_if (asks_for x.socket x.foreign c && place == x.own_stamp) (closes x.socket x.foreign c) (ended_by (own_closed place)) k (record k { stage = own_asked k.stage }) refl refl

  heard_owes : (os : List Order) (k : Course) → AllPlain os → (each (heard x place) os k).owes ≡ k.owes
  heard_owes [] k h = refl
  heard_owes (Wrong code octets ∷ os) k h = heard_owes os k h.1
  heard_owes (Legal c ∷ os) k h =
      heard_owes os (heard x place c k) h.1 ∙ ap (λ (j : Course). j.owes) (heard_plain x place c k h.0.0)
      ∙ owes_if (asks_for x.foreign x.socket c && place == x.partner_stamp) (closes x.foreign x.socket c) (ended_by (partner_closed place)) k (record k { stage = partner_asked k.stage }) refl refl

-- ---- what a text is for a reset

not_reply : (cs : List Command) → ArePlain cs → is_alone is_rrp (map Legal cs) ≡ false
not_reply [] h = refl
not_reply (c ∷ []) h = h.0.1
not_reply (c ∷ d ∷ cs) h = refl

message_is : (link : ℕ) (text : List Bool) (os : List Order) → (link == 0) ≡ true → orders_of text ≡ os → message_on link text ≡ control_message text os
message_is link text os zero orders = ap (λ (v : Bool). if v then control_message text (orders_of text) else Other text) zero ∙ ap (control_message text) orders

owed_plain : (link : ℕ) (text : List Bool) (p : Pair) (v w : Bool) → w ≡ false → (pair_sent link (if v then Reset else (if w then Reply else Other text)) p).owed ≡ p.owed
owed_plain link text p true w e = refl
owed_plain link text p false true e = absurd (let no : true ≡ false = e in cc)
owed_plain link text p false false e = refl

pub when_on : (f : Command → Course → Course) (z : Bool) (orders os : List Order) (k : Course) → z ≡ true → orders ≡ os → (if z then each f orders k else k) ≡ each f os k
when_on f z orders os k e g = ap (λ (v : Bool). if v then each f orders k else k) e ∙ ap (λ (ts : List Order). each f ts k) g

-- ---- all moments

module _ (hosts : Network) (x : Life) (ours : AreOurs hosts x.host x.peer) where
  abbrev IsOwed : List Moment → Type 0
  IsOwed ms = (course_in x ms).owes ≡ (pair x.host x.peer (events_of ms)).owed

  out_owed : (m : HostMessage) (ms : List Moment) → Lawful hosts (Crossed (crossing.Out m) ∷ ms) → IsOwed ms
      → IsOwed (Crossed (crossing.Out m) ∷ ms)
  out_owed m ms l old = by (same_host x.host m.flow.source) (same_host x.peer m.flow.destination) refl refl where
    on : same_host x.host m.flow.source ≡ true → same_host x.peer m.flow.destination ≡ true
        → (if 0 == m.flow.link.0 then each (said x (places ms)) (orders_of m.text) (course_in x ms) else course_in x ms).owes ≡ (pair_sent m.flow.link.0 (message_on m.flow.link.0 m.text) (pair x.host x.peer (events_of ms))).owed
    on e f = of (outs hosts ms lower x.host m n with_peer) where
      lower : Lawful hosts ms
      lower = below hosts (Crossed (crossing.Out m)) ms l

      n : IsNext (program x.host ms) m
      n = subst (λ (h : Host). IsNext (program h ms) m) (sym (same_host-true x.host m.flow.source e)) ((coupled_in hosts (Crossed (crossing.Out m) ∷ ms) l).story.0 (subst (λ (g : Host). hosts.strange g ≡ false) (same_host-true x.host m.flow.source e) ours.0))

      with_peer : AreOurs hosts x.host n.peer.host
      with_peer = (ours.0, subst (λ (g : Host). hosts.strange g ≡ false) (same_host-true x.peer m.flow.destination f ∙ ap (λ (y : HostMessage). y.flow.destination) n.message) ours.1)

      zero_is : m.flow.link.0 ≡ 0 → (0 == m.flow.link.0) ≡ true
      zero_is z = eq-eqb 0 m.flow.link.0 (sym z)

      of : Outs n.peer.pair n.parcel m
          → (if 0 == m.flow.link.0 then each (said x (places ms)) (orders_of m.text) (course_in x ms) else course_in x ms).owes ≡ (pair_sent m.flow.link.0 (message_on m.flow.link.0 m.text) (pair x.host x.peer (events_of ms))).owed
      of (AReset wanted zero orders is) =
          ap (λ (k : Course). k.owes) (when_on (said x (places ms)) (0 == m.flow.link.0) (orders_of m.text) (Legal command.Rst ∷ []) (course_in x ms) (zero_is zero) orders) ∙ old
          ∙ ap (λ (t : Message). (pair_sent m.flow.link.0 t (pair x.host x.peer (events_of ms))).owed) (sym (message_is m.flow.link.0 m.text (Legal command.Rst ∷ []) (eq-eqb m.flow.link.0 0 zero) orders))
      of (AReply owed zero orders is) =
          ap (λ (k : Course). k.owes) (when_on (said x (places ms)) (0 == m.flow.link.0) (orders_of m.text) (Legal command.Rrp ∷ []) (course_in x ms) (zero_is zero) orders)
          ∙ ap (λ (t : Message). (pair_sent m.flow.link.0 t (pair x.host x.peer (events_of ms))).owed) (sym (message_is m.flow.link.0 m.text (Legal command.Rrp ∷ []) (eq-eqb m.flow.link.0 0 zero) orders))
      of (Several count is zero orders) =
          let plain : ArePlain (take count n.peer.pair.queue) = plain_take count n.peer.pair.queue (queue_plain hosts ms lower x.host m n with_peer) in
          ap (λ (k : Course). k.owes) (when_on (said x (places ms)) (0 == m.flow.link.0) (orders_of m.text) (map Legal (take count n.peer.pair.queue)) (course_in x ms) (zero_is zero) orders)
          ∙ said_owes x (places ms) (take count n.peer.pair.queue) (course_in x ms) plain ∙ old
          ∙ sym (owed_plain m.flow.link.0 m.text (pair x.host x.peer (events_of ms)) (is_alone is_rst (map Legal (take count n.peer.pair.queue))) (is_alone is_rrp (map Legal (take count n.peer.pair.queue))) (not_reply (take count n.peer.pair.queue) plain))
          ∙ ap (λ (t : Message). (pair_sent m.flow.link.0 t (pair x.host x.peer (events_of ms))).owed) (sym (message_is m.flow.link.0 m.text (map Legal (take count n.peer.pair.queue)) (eq-eqb m.flow.link.0 0 zero) orders))
      of (AData d size count is away) =
          ap (λ (v : Bool). (if v then each (said x (places ms)) (orders_of m.text) (course_in x ms) else course_in x ms).owes) (eqb-sym 0 m.flow.link.0 ∙ away) ∙ old
          ∙ ap (λ (v : Bool). (pair_sent m.flow.link.0 (if v then control_message m.text (orders_of m.text) else Other m.text) (pair x.host x.peer (events_of ms))).owed) (sym away)

    by : (v w : Bool) → same_host x.host m.flow.source ≡ v → same_host x.peer m.flow.destination ≡ w
        → (if v && w && 0 == m.flow.link.0 then each (said x (places ms)) (orders_of m.text) (course_in x ms) else course_in x ms).owes ≡ (pair_moved (when (v && w) (Send m.flow.link.0 (message_on m.flow.link.0 m.text))) (pair x.host x.peer (events_of ms))).owed
    by true true e f = on e f
    by true false e f = old
    by false w e f = old

  in_owed : (m : HostMessage) (ms : List Moment) → Lawful hosts (Crossed (crossing.In m) ∷ ms) → IsOwed ms
      → IsOwed (Crossed (crossing.In m) ∷ ms)
  in_owed m ms l old = by (same_host x.host m.flow.destination) (same_host x.peer m.flow.source) refl refl where
    on : same_host x.host m.flow.destination ≡ true → same_host x.peer m.flow.source ≡ true → Sort m.flow.link.0 m.text → (if 0 == m.flow.link.0 then each (heard x (places ms)) (orders_of m.text) (course_in x ms) else course_in x ms).owes ≡ (took (message_on m.flow.link.0 m.text) (pair x.host x.peer (events_of ms))).owed
    on e f (AnRst zero orders is) =
        ap (λ (k : Course). k.owes) (when_on (heard x (places ms)) (0 == m.flow.link.0) (orders_of m.text) (Legal command.Rst ∷ []) (course_in x ms) (eqb-sym 0 m.flow.link.0 ∙ zero) orders)
        ∙ ap (λ (t : Message). (took t (pair x.host x.peer (events_of ms))).owed) (sym is)
    on e f (AnRrp zero orders is) =
        ap (λ (k : Course). k.owes) (when_on (heard x (places ms)) (0 == m.flow.link.0) (orders_of m.text) (Legal command.Rrp ∷ []) (course_in x ms) (eqb-sym 0 m.flow.link.0 ∙ zero) orders) ∙ old
        ∙ ap (λ (t : Message). (took t (pair x.host x.peer (events_of ms))).owed) (sym is)
    on e f (AText is) = text (m.flow.link.0 == 0) refl ∙ old ∙ ap (λ (t : Message). (took t (pair x.host x.peer (events_of ms))).owed) (sym is) where
      plain : (m.flow.link.0 == 0) ≡ true → AllPlain (orders_of m.text)
      plain = subst (λ (t : Message). IsApart m.flow.link.0 m.text t) is ((coupled_in hosts (Crossed (crossing.In m) ∷ ms) l).story.0 (subst (λ (g : Host). hosts.strange g ≡ false) (same_host-true x.peer m.flow.source f) ours.1, subst (λ (g : Host). hosts.strange g ≡ false) (same_host-true x.host m.flow.destination e) ours.0))

      text : (v : Bool) → (m.flow.link.0 == 0) ≡ v → (if 0 == m.flow.link.0 then each (heard x (places ms)) (orders_of m.text) (course_in x ms) else course_in x ms).owes ≡ (course_in x ms).owes
      text true zero =
          ap (λ (v : Bool). (if v then each (heard x (places ms)) (orders_of m.text) (course_in x ms) else course_in x ms).owes) (eqb-sym 0 m.flow.link.0 ∙ zero) ∙ heard_owes x (places ms) (orders_of m.text) (course_in x ms) (plain zero)
      text false away = ap (λ (v : Bool). (if v then each (heard x (places ms)) (orders_of m.text) (course_in x ms) else course_in x ms).owes) (eqb-sym 0 m.flow.link.0 ∙ away)

    by : (v w : Bool) → same_host x.host m.flow.destination ≡ v → same_host x.peer m.flow.source ≡ w → (if w && v && 0 == m.flow.link.0 then each (heard x (places ms)) (orders_of m.text) (course_in x ms) else course_in x ms).owes ≡ (pair_moved (when (v && w) (Take (message_on m.flow.link.0 m.text))) (pair x.host x.peer (events_of ms))).owed
    by true true e f = on e f (sort_of m.flow.link.0 m.text)
    by true false e f = old
    by false true e f = old
    by false false e f = old

  told_same : (v : Bool) (link : ℕ) (kind : Answer) (p : Pair) → (pair_moved (when v (Hear link kind)) p).owed ≡ p.owed
  told_same true link answer.Rfnm p = refl
  told_same true link kind p = refl
  told_same false link kind p = refl

  cut_same : (v : Bool) (place : ℕ) (k : Course) → (if v then ended_by (cut Dropped place) k else k).owes ≡ k.owes
  cut_same true place k = refl
  cut_same false place k = refl

  call_same : (v : Bool) (p : Pair) → (pair_moved (when v Call) p).owed ≡ p.owed
  call_same true p = refl
  call_same false p = refl

  stops : (v : Bool) (j k : Course) (p : Pair) → k.owes ≡ p.owed → j.owes ≡ false → (if v then j else k).owes ≡ (pair_moved (when v Begin) p).owed
  stops true j k p old e = e
  stops false j k p old e = old

  pub owes_law : (ms : List Moment) → Lawful hosts ms → IsOwed ms
  owes_law [] l = refl
  owes_law (Crossed (crossing.Out m) ∷ ms) l = out_owed m ms l (owes_law ms (below hosts (Crossed (crossing.Out m)) ms l))
  owes_law (Crossed (crossing.In m) ∷ ms) l = in_owed m ms l (owes_law ms (below hosts (Crossed (crossing.In m)) ms l))
  owes_law (Crossed (crossing.Answer kind f) ∷ ms) l =
      cut_same _ _ _ ∙ owes_law ms (below hosts (Crossed (crossing.Answer kind f)) ms l)
      ∙ sym (told_same _ f.link.0 kind _)
  owes_law (Crossed (crossing.Down h) ∷ ms) l =
      stops _ _ _ _ (owes_law ms (below hosts (Crossed (crossing.Down h)) ms l)) refl
  owes_law (Crossed (crossing.Up h) ∷ ms) l =
      stops _ _ _ _ (owes_law ms (below hosts (Crossed (crossing.Up h)) ms l)) refl
  owes_law (Asked h (request.Contact peer) ∷ ms) l =
      cut_same _ _ _ ∙ owes_law ms (below hosts (Asked h (request.Contact peer)) ms l) ∙ sym (call_same _ _)
  owes_law (Asked h r ∷ ms) l = owes_law ms (below hosts (Asked h r) ms l)

  -- so it is in the program
  pub owes_is : (ms : List Moment) → Lawful hosts ms
      → (course_in x ms).owes ≡ (pair_with x.peer (program x.host ms).peers).owed
  owes_is ms l = owes_law ms l ∙ (story_agrees hosts ms x.host x.peer ours (coupled_in hosts ms l).story).owed
