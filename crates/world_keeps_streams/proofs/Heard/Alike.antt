-- What a host heard by its calls is what the law of pairing has it hear.
use Rattle.world_keeps_streams.proofs.Common.{◌≡◌, ℕ, ◌==◌, ◌&&◌, Bool, true, false, if◌then◌else◌, List, [], ◌∷◌, ◌++◌, take, Option, Some, None, refl, ap, sym, subst, ◌∙◌, append_assoc, Host, same_host, HostMessage, same_host-true, Command, Order, Legal, Wrong, orders_of, desk_of, listens_on, is_busy, PairState, Parcel, command_gone, with_connections, is_ready, TurnState, order_taken, Entry, Listener, eqb-sym, mark_of, marks_in, Sockets, Who, Mark, Ask, Close, placed_event, tagged, with_box, with_place, Side, hears, Fresh, begins_fresh, stays_same, stays_ready, turn_of, NcpState, owner_of, pair_with, next_in, Peer, Request, HaveAddresses, message_on, Asked, Crossed, Moment, event_in, events_of, places, program, crossings_of, Coupled, by_request, coupled, IsAsking, law_events, keeps, AreOurs, Network, Happened}
use Rattle.host_keeps_streams.specs.Histories.{Answered, AsksBack, Closes, Gives, Grants, Hears, OpensReceiver, OpensSender, Says, Takes, Call}
use Rattle.reset_law.specs.Boxes.{boxes, Box, Waiting}
use Rattle.reset_law.specs.Events.{Event, In, Message, Other, Reply, Reset}
use Rattle.world_keeps_pairing.proofs.lemmas.{AText, AnRrp, AnRst, AreOrigins, Sort, all_hears, all_says, at_texts, foreign_of, half, heard_is, hears_if, left_if, mail_below, met_if, other, own_of, sort_of, waiting, IsOrigin, IsPair, before}
use Rattle.world_keeps_streams.specs.Calls.{answer_calls, calls_by, commands_said, message_calls, next_calls, orders_heard, own_calls, owner_calls, parcel_calls, request_calls, called}
use Rattle.interface.specs.Mailboxes as mail
use Rattle.interface.specs.declared.crossing.Crossing.TheVariants as crossing
use Rattle.ncp_control.specs.declared.command.Command.TheVariants as command
use Rattle.host_pairs.specs.Parcels as parcel
use Rattle.host_keeps_pairing.specs.Spoken.{upon}
use Rattle.host_keeps_streams.specs.Histories as calls
use Rattle.reset_law.specs.Stays as stay
use Rattle.sockets.specs.declared.request.Request.TheVariants as request
use Rattle.world_keeps_streams.proofs.Calls.Chain.{ready_both}
use Rattle.world_keeps_streams.proofs.Requests.Sides.{begins_same}
use Rattle.world_keeps_streams.proofs.Heard.Lists.{heard_list, mark_heard}
use Rattle.world_keeps_streams.proofs.Stays.Meets.{solo_there}
use Rattle.world_keeps_streams.proofs.Stays.Quiet.{Asks, IsSolo, Quiet, Replied, Told}
use Rattle.world_keeps_streams.proofs.Stays.Resets.{stays_on}
use Rattle.world_keeps_streams.proofs.Heard.Marks.{said_heard}

-- ---- lists of marks

upon_join : (ms ns w : List Mark) → upon (ms ++ ns) w ≡ upon ns (upon ms w)
upon_join [] ns w = refl
upon_join (m ∷ ms) ns w = upon_join ms ns (m ∷ w)

upon_on : (ms a w : List Mark) → upon ms a ++ w ≡ upon ms (a ++ w)
upon_on [] a w = refl
upon_on (m ∷ ms) a w = upon_on ms (m ∷ a) w

one_upon : (t : Bool) (m : Mark) (w : List Mark) → (if t then m ∷ [] else []) ++ w ≡ upon (if t then m ∷ [] else []) w
one_upon true m w = refl
one_upon false m w = refl

-- ---- calls

module _ (o : ℕ → ℕ) (foreign own : ℕ) where
  list_join : (xs ys : List calls.Moment) → heard_list o foreign own (xs ++ ys) ≡ heard_list o foreign own xs ++ heard_list o foreign own ys
  list_join [] ys = refl
  list_join (x ∷ xs) ys =
      ap (λ (l : List Mark). mark_heard o foreign own x.call ++ l) (list_join xs ys)
      ∙ sym (append_assoc (mark_heard o foreign own x.call) (heard_list o foreign own xs) (heard_list o foreign own ys))

  mark_upon : (place : ℕ) (c : Command) (w : List Mark) → mark_of place foreign own c ++ w ≡ upon (mark_of place foreign own c) w
  mark_upon place (command.Rts a b c) w = one_upon (a == foreign && b == own) (Ask place) w
  mark_upon place (command.Str a b c) w = one_upon (a == foreign && b == own) (Ask place) w
  mark_upon place (command.Cls a b) w = one_upon (a == foreign && b == own) Close w
  mark_upon place c w = refl

  -- the orders of a message, one after another
  orders_list : (peer : Host) (stamp : ℕ) (os : List Order) (t : TurnState) (older : List calls.Moment)
      → heard_list o foreign own (orders_heard peer stamp os t older) ≡ upon (marks_in (o stamp) foreign own os) (heard_list o foreign own older)
  orders_list peer stamp [] t older = refl
  orders_list peer stamp (Wrong code octets ∷ os) t older = orders_list peer stamp os (order_taken peer stamp (Wrong code octets) t) older
  orders_list peer stamp (Legal c ∷ os) t older =
      orders_list peer stamp os (order_taken peer stamp (Legal c) t) (called (Hears stamp 0 c) t.pair t.listening ∷ older)
      ∙ ap (λ (w : List Mark). upon (marks_in (o stamp) foreign own os) w) (mark_upon (o stamp) c (heard_list o foreign own older))
      ∙ sym (upon_join (mark_of (o stamp) foreign own c) (marks_in (o stamp) foreign own os) (heard_list o foreign own older))

  -- what isn't heard
  said_list : (peer : Host) (stamp : ℕ) (cs : List Command) (q : PairState) (listening : List Listener) (older : List calls.Moment) → heard_list o foreign own (commands_said peer stamp cs q listening older) ≡ heard_list o foreign own older
  said_list peer stamp [] q listening older = refl
  said_list peer stamp (c ∷ cs) q listening older = said_list peer stamp cs (with_connections q (command_gone peer stamp c (desk_of q listening))) listening (called (Says stamp c) q listening ∷ older)

  parcel_list : (peer : Host) (stamp : ℕ) (x : Parcel) (q : PairState) (listening : List Listener) → heard_list o foreign own (parcel_calls peer stamp x q listening) ≡ []
  parcel_list peer stamp (parcel.Commands count) q listening = said_list peer stamp (take count q.queue) q listening []
  parcel_list peer stamp x q listening = refl

  next_list : (peer : Host) (stamp : ℕ) (listening : List Listener) (x : Option (Peer × Parcel)) → heard_list o foreign own (next_calls peer stamp listening x) ≡ []
  next_list peer stamp listening None = refl
  next_list peer stamp listening (Some (p, x)) = by (same_host peer p.host) where
    by : (b : Bool) → heard_list o foreign own (if b then parcel_calls peer stamp x p.pair listening else []) ≡ []
    by true = parcel_list peer stamp x p.pair listening
    by false = refl

  none_if : (b : Bool) (cs : List calls.Moment) → heard_list o foreign own cs ≡ [] → heard_list o foreign own (if b then cs else []) ≡ []
  none_if true cs e = e
  none_if false cs e = refl

  none_else : (b : Bool) (cs : List calls.Moment) → heard_list o foreign own cs ≡ [] → heard_list o foreign own (if b then [] else cs) ≡ []
  none_else true cs e = refl
  none_else false cs e = e

  one_list : (k : Call) (q : PairState) (listening : List Listener) → mark_heard o foreign own k ≡ [] → heard_list o foreign own (called k q listening ∷ []) ≡ []
  one_list k q listening e = ap (λ (l : List Mark). l ++ []) e

  owner_list : (peer : Host) (call : Entry → Call) (q : PairState) (listening : List Listener) (x : Option (Host × Entry)) → ((e : Entry) → mark_heard o foreign own (call e) ≡ []) → heard_list o foreign own (owner_calls peer call q listening x) ≡ []
  owner_list peer call q listening None f = refl
  owner_list peer call q listening (Some (h, e)) f = none_if (same_host peer h) (called (call e) q listening ∷ []) (one_list (call e) q listening (f e))

  request_list : (peer : Host) (s : NcpState) (r : Request) → heard_list o foreign own (request_calls peer s r) ≡ []
  request_list peer s (request.OpenSend host mine theirs size) = none_if (same_host peer host) (called (OpensSender mine theirs size) (pair_with peer s.peers) s.listening ∷ []) refl
  request_list peer s (request.OpenReceive host mine theirs) = none_if (same_host peer host) (called (OpensReceiver mine theirs) (pair_with peer s.peers) s.listening ∷ []) refl
  request_list peer s (request.Send socket bits) = owner_list peer (Gives socket bits) (pair_with peer s.peers) s.listening (owner_of socket s.peers) (λ e. refl)
  request_list peer s (request.Grant socket m n) = owner_list peer (Grants socket m n) (pair_with peer s.peers) s.listening (owner_of socket s.peers) (λ e. refl)
  request_list peer s (request.AskBack socket m n) = owner_list peer (AsksBack socket m n) (pair_with peer s.peers) s.listening (owner_of socket s.peers) (λ e. refl)
  request_list peer s (request.Close socket) =
      none_else (listens_on socket s.listening) (owner_calls peer (Closes socket) (pair_with peer s.peers) s.listening (owner_of socket s.peers)) (owner_list peer (Closes socket) (pair_with peer s.peers) s.listening (owner_of socket s.peers) (λ e. refl))
  request_list peer s r = refl

  -- calls of a host that hasn't met its peer yet hear nothing of connections
  asking_none : (k : Call) → IsAsking k → mark_heard o foreign own k ≡ []
  asking_none (Hears stamp said c) a = absurd a
  asking_none k a = refl

  quiet_none : (k : Call) (q : PairState) → Quiet k q → mark_heard o foreign own k ≡ []
  quiet_none k q (Asks is may paired) = asking_none k is
  quiet_none k q (Told l is) = ap (mark_heard o foreign own) is
  quiet_none k q (Replied stamp is) = ap (mark_heard o foreign own) is

  solo_list : (peer : Host) (ms : List calls.Moment) (queue : List Command) → IsSolo peer ms queue → heard_list o foreign own ms ≡ []
  solo_list peer [] queue h = refl
  solo_list peer (m ∷ ms) queue h = ap (λ (l : List Mark). l ++ heard_list o foreign own ms) (quiet_none m.call m.pair h.0) ∙ solo_list peer ms m.pair.queue h.2

-- ---- one event of the law

hears_heard : (ms : List Mark) (x : Side) → (all_hears ms x).heard ≡ upon ms x.heard
hears_heard [] x = refl
hears_heard (m ∷ ms) x = hears_heard ms (hears m x)

left_heard : (k : Bool) (x : Side) → (left_if k x).heard ≡ x.heard
left_heard true x = refl
left_heard false x = refl

module _ (h p : Host) (spoken heard : List (List Bool) → List Mark) (e : Event) (events : List Event) (x : Side) where
  met_heard : stay.begins h p e events ≡ true → (met_if (stay.begins h p e events) (before h p spoken heard e events x)).heard ≡ []
  met_heard begun = ap (λ (v : Bool). (met_if v (before h p spoken heard e events x)).heard) begun

  on_heard : stay.begins h p e events ≡ false → stay.stays h p events ≡ true → (met_if (stay.begins h p e events) (before h p spoken heard e events x)).heard ≡ upon (heard (stay.heard_by p h 0 e)) x.heard
  on_heard none stays =
      ap (λ (v : Bool). (met_if v (before h p spoken heard e events x)).heard) none
      ∙ left_heard (keeps h p e events) (hears_if (stay.stays h p events) (heard (stay.heard_by p h 0 e)) (all_says (spoken (stay.said_by h p 0 e)) x))
      ∙ ap (λ (v : Bool). (hears_if v (heard (stay.heard_by p h 0 e)) (all_says (spoken (stay.said_by h p 0 e)) x)).heard) stays
      ∙ hears_heard (heard (stay.heard_by p h 0 e)) (all_says (spoken (stay.said_by h p 0 e)) x)
      ∙ ap (λ (w : List Mark). upon (heard (stay.heard_by p h 0 e)) w) (said_heard (spoken (stay.said_by h p 0 e)) x)

-- ---- all moments

module _ (s : Sockets) (is_pair : IsPair s) (who : Who) (h p : Host) (origin : Host → Host → ℕ → ℕ) where
  abbrev pub Side_now : List Moment → Side
  Side_now ms = half h p (at_texts s who) (at_texts s (other who)) (law_events ms)

  abbrev pub list_now : List calls.Moment → List Mark
  list_now cs = heard_list (origin h p) (foreign_of who s) (own_of who s) cs

  abbrev event_now : Moment → List Moment → Event
  event_now x ms = placed_event (event_in x) (events_of ms)

  -- what is heard by a moment is what its calls hear
  abbrev Agrees : Moment → List Moment → Type 0
  Agrees x ms = list_now (calls_by h p x ms) ≡ upon (at_texts s (other who) (stay.heard_by p h 0 (event_now x ms))) []

  in_text : (m : HostMessage) (ms : List Moment) (place : ℕ) → stay.ready h p (events_of ms) ≡ is_ready (pair_with p (program h ms).peers).phase → stay.ready h p (events_of ms) ≡ true
      → ((m.flow.link.0 == 0) ≡ true → same_host h m.flow.destination ≡ true → same_host p m.flow.source ≡ true → origin h p (places ms) ≡ place)
      → list_now (if same_host h m.flow.destination && same_host p m.flow.source then message_calls p (places ms) m.flow.link.0 m.text (turn_of (program h ms) p) else [])
      ≡ upon (at_texts s (other who) (stay.heard_by p h 0 (In m.flow.source m.flow.destination m.flow.link.0 (Other (tagged place m.text))))) []
  in_text m ms place both ready from = by (same_host h m.flow.destination) (same_host p m.flow.source) (m.flow.link.0 == 0) refl refl refl where
    phase : is_ready (pair_with p (program h ms).peers).phase ≡ true
    phase = sym both ∙ ready

    by : (d e z : Bool) → same_host h m.flow.destination ≡ d → same_host p m.flow.source ≡ e → (m.flow.link.0 == 0) ≡ z
        → list_now (if d && e then message_calls p (places ms) m.flow.link.0 m.text (turn_of (program h ms) p) else [])
        ≡ upon (at_texts s (other who) (if (e && d) && 0 == m.flow.link.0 then tagged place m.text ∷ [] else [])) []
    by true true true f g k =
        let zero : (0 == m.flow.link.0) ≡ true = eqb-sym 0 m.flow.link.0 ∙ k in
        rw (phase, k, zero)
        (orders_list (origin h p) (foreign_of who s) (own_of who s) p (places ms) (orders_of m.text) (turn_of (program h ms) p) []
        ∙ ap (λ (n : ℕ). upon (marks_in n (foreign_of who s) (own_of who s) (orders_of m.text)) []) (from k f g)
        ∙ ap (λ (l : List Mark). upon l []) (sym (heard_is s is_pair who place m.text)))
    by true true false f g k =
        let other_link : (0 == m.flow.link.0) ≡ false = eqb-sym 0 m.flow.link.0 ∙ k in
        rw (phase, k, other_link) refl
    by true false z f g k = refl
    by false true z f g k = refl
    by false false z f g k = refl

  one_order_list : (c : Command) (m : HostMessage) (ms : List Moment) → (m.flow.link.0 == 0) ≡ true → orders_of m.text ≡ Legal c ∷ [] → mark_of (origin h p (places ms)) (foreign_of who s) (own_of who s) c ≡ []
      → list_now (if same_host h m.flow.destination && same_host p m.flow.source then message_calls p (places ms) m.flow.link.0 m.text (turn_of (program h ms) p) else []) ≡ []
  one_order_list c m ms zero os none = none_if (origin h p) (foreign_of who s) (own_of who s) (same_host h m.flow.destination && same_host p m.flow.source) (message_calls p (places ms) m.flow.link.0 m.text (turn_of (program h ms) p)) (inner (is_ready (pair_with p (program h ms).peers).phase)) where
    heard : list_now (orders_heard p (places ms) (orders_of m.text) (turn_of (program h ms) p) []) ≡ []
    heard =
        orders_list (origin h p) (foreign_of who s) (own_of who s) p (places ms) (orders_of m.text) (turn_of (program h ms) p) []
        ∙ ap (λ (l : List Order). upon (marks_in (origin h p (places ms)) (foreign_of who s) (own_of who s) l) []) os
        ∙ ap (λ (l : List Mark). upon (l ++ []) []) none

    inner : (r : Bool) → list_now (if r then (if m.flow.link.0 == 0 then orders_heard p (places ms) (orders_of m.text) (turn_of (program h ms) p) [] else called (Takes m.flow.link.0 m.text) (turn_of (program h ms) p).pair (turn_of (program h ms) p).listening ∷ []) else []) ≡ []
    inner true = rw zero heard
    inner false = refl

  agrees : (hosts : Network) → AreOurs hosts h p → (x : Moment) (ms : List Moment) → Coupled hosts (x ∷ ms) → IsOrigin origin x ms → stay.stays h p (events_of ms) ≡ true → Agrees x ms
  agrees hosts ours (Crossed (crossing.Out m)) ms c from on = none_if (origin h p) (foreign_of who s) (own_of who s) (same_host h m.flow.source) (next_calls p (places ms) (program h ms).listening (next_in (program h ms).peers)) (next_list (origin h p) (foreign_of who s) (own_of who s) p (places ms) (program h ms).listening (next_in (program h ms).peers))
  agrees hosts ours (Crossed (crossing.Answer kind f)) ms c from on =
      none_if (origin h p) (foreign_of who s) (own_of who s) (same_host h f.source && same_host p f.destination) (answer_calls f.link.0 (pair_with p (program h ms).peers) (program h ms).listening)
      (none_if (origin h p) (foreign_of who s) (own_of who s) (is_busy (pair_with p (program h ms).peers).busy f.link.0) (called (Answered f.link.0) (pair_with p (program h ms).peers) (program h ms).listening ∷ []) refl)
  agrees hosts ours (Crossed (crossing.Down g)) ms c from on = refl
  agrees hosts ours (Crossed (crossing.Up g)) ms c from on = refl
  agrees hosts ours (Asked g r) ms c from on =
      by_request (λ e. list_now (calls_by h p (Asked g r) ms) ≡ upon (at_texts s (other who) (stay.heard_by p h 0 (placed_event e (events_of ms)))) []) g r (λ peer. asked) asked where
        asked : list_now (calls_by h p (Asked g r) ms) ≡ []
        asked = none_if (origin h p) (foreign_of who s) (own_of who s) (same_host h g) (request_calls p (program h ms) r) (request_list (origin h p) (foreign_of who s) (own_of who s) p (program h ms) r)
  agrees hosts ours (Crossed (crossing.In m)) ms c from on = by (sort_of m.flow.link.0 m.text) where
    there : (n : ℕ) × (boxes m.flow.source m.flow.destination (events_of ms) m.flow.link.0 ≡ Waiting n (message_on m.flow.link.0 m.text))
    there = waiting (boxes m.flow.source m.flow.destination (events_of ms) m.flow.link.0) (message_on m.flow.link.0 m.text) c.run.0.1

    boxed : (n : Message) → message_on m.flow.link.0 m.text ≡ n → with_box (boxes m.flow.source m.flow.destination (events_of ms) m.flow.link.0) (message_on m.flow.link.0 m.text) ≡ with_place there.0 n
    boxed n e = ap (λ (b : Box). with_box b (message_on m.flow.link.0 m.text)) there.1 ∙ ap (with_place there.0) e

    Goal : Message → Type 0
    Goal n = list_now (calls_by h p (Crossed (crossing.In m)) ms) ≡ upon (at_texts s (other who) (stay.heard_by p h 0 (In m.flow.source m.flow.destination m.flow.link.0 n))) []

    place : (m.flow.link.0 == 0) ≡ true → same_host h m.flow.destination ≡ true → same_host p m.flow.source ≡ true → origin h p (places ms) ≡ there.0
    place zero f g =
        ap (λ (a : Host). origin a p (places ms)) (same_host-true h m.flow.destination f) ∙ ap (λ (b : Host). origin m.flow.destination b (places ms)) (same_host-true p m.flow.source g) ∙ from there.0 there.1 zero

    by : Sort m.flow.link.0 m.text → Goal (with_box (boxes m.flow.source m.flow.destination (events_of ms) m.flow.link.0) (message_on m.flow.link.0 m.text))
    by (AnRst zero os is) = subst Goal (sym (boxed Reset is)) (one_order_list command.Rst m ms zero os refl)
    by (AnRrp zero os is) = subst Goal (sym (boxed Reply is)) (one_order_list command.Rrp m ms zero os refl)
    by (AText is) = subst Goal (sym (boxed (Other m.text) is)) (in_text m ms there.0 (ready_both hosts h p ms ours c.story.1) (stays_ready (events_of ms) h p on) place)

  module _ (hosts : Network) (addresses : HaveAddresses hosts.all) (ours : AreOurs hosts h p) where
    same_stays : (ms : List Moment) → stay.stays h p (law_events ms) ≡ stay.stays h p (events_of ms)
    same_stays ms = stays_same h p (events_of ms)

    pub heard_marks : (ms : List Moment) → mail.IsRun hosts.all (crossings_of ms) → Happened hosts ms → AreOrigins origin ms → stay.stays h p (events_of ms) ≡ true → (Side_now ms).heard ≡ list_now (own_calls h p ms)
    heard_marks [] run time from on = absurd (cc)
    heard_marks (x ∷ ms) run time from on = by (stay.begins h p (event_in x) (events_of ms)) refl (heard_marks ms (mail_below hosts.all x ms run) time.1 from.1) where
      now : Coupled hosts (x ∷ ms)
      now = coupled hosts addresses (x ∷ ms) run time

      by : (t : Bool) → stay.begins h p (event_in x) (events_of ms) ≡ t → (stay.stays h p (events_of ms) ≡ true → (Side_now ms).heard ≡ list_now (own_calls h p ms)) → (Side_now (x ∷ ms)).heard ≡ list_now (own_calls h p (x ∷ ms))
      by true begun old =
          let f : Fresh h p (event_in x) (events_of ms) = begins_fresh hosts (event_in x) (events_of ms) now.run h p ours begun in
          met_heard h p (at_texts s who) (at_texts s (other who)) (event_now x ms) (law_events ms) (Side_now ms) (begins_same h p (event_in x) (events_of ms) ∙ begun)
          ∙ sym (solo_list (origin h p) (foreign_of who s) (own_of who s) p (own_calls h p (x ∷ ms)) (pair_with p (program h (x ∷ ms)).peers).queue (solo_there hosts addresses h p ours x ms run time f.left f.silent))
      by false none old =
          let kept : (keeps h p (event_in x) (events_of ms) ≡ true) × (stay.stays h p (events_of ms) ≡ true) = stays_on h p (event_in x) (events_of ms) on none in
          let marks : List Mark = at_texts s (other who) (stay.heard_by p h 0 (event_now x ms)) in
          on_heard h p (at_texts s who) (at_texts s (other who)) (event_now x ms) (law_events ms) (Side_now ms) (begins_same h p (event_in x) (events_of ms) ∙ none) (same_stays ms ∙ kept.1)
          ∙ ap (λ (w : List Mark). upon marks w) (old kept.1)
          ∙ sym (upon_on marks [] (list_now (own_calls h p ms)))
          ∙ ap (λ (w : List Mark). w ++ list_now (own_calls h p ms)) (sym (agrees hosts ours x ms now from.0 kept.1))
          ∙ sym (list_join (origin h p) (foreign_of who s) (own_of who s) (calls_by h p x ms) (own_calls h p ms))
          ∙ sym (ap (λ (k : Bool). list_now (if k then calls_by h p x ms ++ own_calls h p ms else [])) kept.0)
