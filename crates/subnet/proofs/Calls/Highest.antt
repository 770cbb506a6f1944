-- No number that is higher than all that were begun is alive of a flow whose source's IMP is up, over each event.
use Rattle.subnet.proofs.Common.{get-empty, flat_map, list_any, get_or-set_other, All-nil, All-cons, All-head, All-tail, All-append, All-set, All-weaker, All-contains, All-contains_itself, same_flow, flow_cmp, Host, is_host, Flow, CarrierFault, Crossing, Inbound, Direction, NetEvent, HostMessage, and_true, guard, not_false, or_false, same_flow-refl, same_flow-true, outstanding_in, PacketFields, flow_of, PacketKind, All_left, All_right, Invariant, Queued, carried_by, Content, Frame, ContentHas, Message, Told, ask, answer_packet, next_number, resend, route, claim, Way, Nowhere, Here, Away, IsImp, messages_of, is_from_here, to_host, to_host_refusal, same_at, Net, Wire, imp_at, wire_at, ends_at, port_of, frames_on, far_end, packets, messages, packets_at_imp, packets_on_wire, messages_at_imp, has_flow, is_remembered, is_awaited, is_alive, says, carries, Alive, queued_of, imp_is_up, sender_at, receiver_at, view, Ends, opened_imp, opened_from, opening_subnet, IsAt, IsSound}
use Rattle.imp_node.specs.Taking.{taking_has_room}
use Rattle.std.proofs.Common.{◌≡◌, ℕ, zero, suc, ◌+◌, ◌≤◌, ◌<◌, max, Bool, true, false, not, List, [], ◌∷◌, ◌++◌, ◌==◌, ◌||◌, map, get_or, Option, Some, None, Result, Ok, Err, is_some, refl, ap, sym, subst, ◌∙◌, inl, inr, cond, eqb-true, eq-eqb, if◌then◌else◌, arith, All, Contains}
use Rattle.std.specs.Prelude.{slice_set, slice_get, count_by}
use Rattle.std.specs.FinMap as finite
use Rattle.std.proofs.Math.Nat.{le-max_left, le-max_right}
use Rattle.std.proofs.lemmas.Bool.{cases_Bool, or_from}
use Rattle.std.proofs.lemmas.List.Folds.{list_any_none}
use Rattle.interface.specs.declared.carrier.CarrierFault.TheVariants as fault
use Rattle.interface.specs.declared.crossing.Crossing.TheVariants as crossing
use Rattle.interface.specs.declared.event.NetEvent.TheVariants as event
use Rattle.packetiser.specs.declared.packet.PacketKind.TheVariants as kind
use Rattle.flow_law.specs.Moves as moves
use Rattle.imp_channel.specs.declared.frame.Content.TheVariants as content
use Rattle.imp_node.specs.Arrival.{Arrival, Passing, Old, Undeliverable, Replying, Piece, NoSlot, Whole, Unmarked, Answering, arrival}
use Rattle.imp_node.specs.Contents as contents
use Rattle.imp_node.specs.Making.{cut_for, from_host_makes, told_for, reply_for, rfnm_for, to_host_makes, host_down_makes, question_for, ask_makes}
use Rattle.imp_node.specs.Queries.{last, outstanding, holds, packet_touches, packet_has, message_has}
use Rattle.imp_node.specs.State.{State, HostState, ImpTurn, no_host, host_at, is_there, is_up}
use Rattle.imp_node.specs.State as imp
use Rattle.subnet.specs.Calls.{take_grows}
use Rattle.subnet.specs.Events.{at_imp, at_up, first_of, logging, is_imp, site_at, hosts_at, started_imp, take_refusal, take_in, taken_by_host, offer_out, delivered, deliver, drop_frame, host_stopped, host_started, starting_refusal, imp_started, imp_stopped, offer_refusal, step_refusal, stepped, quiet_round}
use Rattle.subnet.specs.Flows as flows
use Rattle.subnet.specs.Inside.Calling.{CallEnds, Fails, Steps, runs_out}
use Rattle.subnet.specs.Inside.Highest.{OutstandingUpTo, ImpUpTo, PacketUpTo, NumbersUpTo, next_at}
use Rattle.subnet.specs.Making.{NothingNew, OnlyNew, made_at, told_made, frame_makes}
use Rattle.subnet.proofs.Calls.Outstanding.{give_up_low, ask_low, from_host_low, from_line_low, to_host_low, host_down_low}
use Rattle.subnet.proofs.Calls.Rounds.{round_keeps}
use Rattle.subnet.proofs.Calls.Silence.{nowhere, parts_left, parts_right}
use Rattle.subnet.proofs.Moves.HostsDown.{dead_all}
use Rattle.subnet.proofs.Moves.Offers.{each_packet, next_is}
use Rattle.subnet.proofs.Moves.Openings.{opening_empty}
use Rattle.subnet.proofs.Packets.Having.{FrameHas, NetHas, GotHas, packets_net, got_has}
use Rattle.subnet.proofs.Packets.HavingByEvents.{offer_only, take_only, stop_only, ask_only, deliver_only, drop_nothing, resend_nothing, route_nothing, claim_nothing, end_down_nothing, end_up_nothing, give_up_nothing, forget_nothing, abandon_nothing, start_host_nothing, start_imp_nothing, stop_imp_nothing}
use Rattle.subnet.proofs.Packets.OnLines.{way_holds, wire_holds}

-- ---- IMPs

imp_low : (h : ℕ) (imps : List (Option State)) (i : ℕ) → All (ImpUpTo h) imps → ImpUpTo h (imp_at imps i)
imp_low h [] i all = tt
imp_low h (o ∷ imps) zero all = All-head (ImpUpTo h) o imps all
imp_low h (o ∷ imps) (suc i) all = imp_low h imps i (All-tail (ImpUpTo h) o imps all)

-- after a call of one IMP
called_low : (h : ℕ) (n : Net) (i : ℕ) (call : State → ImpTurn) → ((s : State) → imp_at n.imps i ≡ Some s → OutstandingUpTo h s → OutstandingUpTo h (call s).state)
    → All (ImpUpTo h) n.imps → All (ImpUpTo h) (at_imp (imp_at n.imps i) i call n).imps
called_low h n i call each all = by (imp_at n.imps i) refl (imp_low h n.imps i all) where
  by : (o : Option State) → imp_at n.imps i ≡ o → ImpUpTo h o → All (ImpUpTo h) (at_imp o i call n).imps
  by None at low = all
  by (Some s) at low = All-set (ImpUpTo h) n.imps i (Some (call s).state) (each s at low) all

-- no IMP comes up
abbrev NoneStarts : Net → Net → Type 0
NoneStarts n m = (j : ℕ) → imp_is_up (imp_at m.imps j) ≡ true → imp_is_up (imp_at n.imps j) ≡ true

called_up : (n : Net) (i : ℕ) (call : State → ImpTurn) → NoneStarts n (at_imp (imp_at n.imps i) i call n)
called_up n i call j = by (imp_at n.imps i) refl where
  by : (o : Option State) → imp_at n.imps i ≡ o → imp_is_up (imp_at (at_imp o i call n).imps j) ≡ true → imp_is_up (imp_at n.imps j) ≡ true
  by None at up = up
  by _ at up = sym (same_at imp_is_up n.imps i j _ None (ap imp_is_up (sym at))) ∙ up

-- ---- packets

packets_low : (h : ℕ) (n m : Net) (made : List PacketFields) → OnlyNew n made m → NoneStarts n m → All (PacketUpTo h n.imps) (packets n) → All (PacketUpTo h n.imps) made → All (PacketUpTo h m.imps) (packets m)
packets_low h n m made only ups old new =
    let P : PacketFields → Type 0 = PacketUpTo h n.imps in
    let both : All P (packets n ++ made) = All-append P (packets n) made old new in
    All-weaker (Contains (packets n ++ made)) (PacketUpTo h m.imps) (λ p there up. All-contains P (packets n ++ made) p both there (ups p.source.imp up)) (packets m) only

none_new : (h : ℕ) (n m : Net) → NothingNew n m → NoneStarts n m → All (PacketUpTo h n.imps) (packets n) → All (PacketUpTo h m.imps) (packets m)
none_new h n m among ups old =
    All-weaker (Contains (packets n)) (PacketUpTo h m.imps) (λ p there up. All-contains (PacketUpTo h n.imps) (packets n) p old there (ups p.source.imp up)) (packets m) among

-- a call of one IMP that makes no packet
quiet_low : (h : ℕ) (n : Net) (i : ℕ) (call : State → ImpTurn) → ((s : State) → OutstandingUpTo h s → OutstandingUpTo h (call s).state) → NothingNew n (at_imp (imp_at n.imps i) i call n)
    → NumbersUpTo h n → NumbersUpTo h (at_imp (imp_at n.imps i) i call n)
quiet_low h n i call each among low = record {
  outstanding = called_low h n i call (λ s at. each s) low.outstanding;
  packets = none_new h n (at_imp (imp_at n.imps i) i call n) among (called_up n i call) low.packets;
}

-- one that makes these
making_low : (h : ℕ) (n : Net) (i : ℕ) (call : State → ImpTurn) (made : List PacketFields) → ((s : State) → imp_at n.imps i ≡ Some s → OutstandingUpTo h s → OutstandingUpTo h (call s).state)
    → OnlyNew n made (at_imp (imp_at n.imps i) i call n) → All (PacketUpTo h n.imps) made → NumbersUpTo h n → NumbersUpTo h (at_imp (imp_at n.imps i) i call n)
making_low h n i call made each only new low = record {
  outstanding = called_low h n i call each low.outstanding;
  packets = packets_low h n (at_imp (imp_at n.imps i) i call n) made only (called_up n i call) low.packets new;
}

logged_low : (h : ℕ) (entries : List Crossing) (n : Net) → NumbersUpTo h n → NumbersUpTo h (logging entries n)
logged_low h entries n low = record { outstanding = low.outstanding; packets = low.packets }

-- a higher number bounds them too
imp_higher : (h k : ℕ) → h ≤ k → (o : Option State) → ImpUpTo h o → ImpUpTo k o
imp_higher h k more None low = tt
imp_higher h k more (Some s) low = λ f number is. (let below : number ≤ h = low f number is in omega (arith, below, more))

pub higher : (h k : ℕ) (n : Net) → h ≤ k → NumbersUpTo h n → NumbersUpTo k n
higher h k n more low = record {
  outstanding = All-weaker (ImpUpTo h) (ImpUpTo k) (imp_higher h k more) n.imps low.outstanding;
  packets = All-weaker (PacketUpTo h n.imps) (PacketUpTo k n.imps) (λ p is up. (let below : p.number ≤ h = is up in omega (arith, below, more))) (packets n) low.packets;
}

-- ---- messages that wait

-- a message has no higher number while its source's IMP is up
abbrev MessageUpTo : ℕ → List (Option State) → Message → Type 0
MessageUpTo h imps m = imp_is_up (imp_at imps m.flow.source.imp) ≡ true → m.number ≤ h

outstanding_low : (h : ℕ) (o : Option State) (f : Flow) (number : ℕ) → ImpUpTo h o → (sender_at o f).outstanding ≡ Some number → number ≤ h
outstanding_low h None f number low is = absurd (cc)
outstanding_low h (Some s) f number low is = low f number is

-- of a flow's queue
view_low : (h : ℕ) (n : Net) (f : Flow) → IsSound n → NumbersUpTo h n → imp_is_up (imp_at n.imps f.source.imp) ≡ true → All (λ (q : Queued). q.number ≤ h) (view n f).queue
view_low h n f is low up =
    let P : Queued → Type 0 = λ q. q.number ≤ h in
    let law : Invariant flows.Piece (view n f) (Alive n f) = (is.flows.flows f).clauses in
    elim law.waiting [
      | inl none ↦ subst (All P) (sym none) (All-nil P)
      | inr held ↦ (let below : held.number ≤ h = outstanding_low h _ f _ (imp_low h n.imps _ low.outstanding) (held.awaited up) in
          subst (All P) (sym held.one) (All-cons P (moves.queued_text held.number held.text) [] below (All-nil P)))
    ]

-- so of those messages of the queue that are of the flow
of_flow : (h : ℕ) (f : Flow) (ms : List Message) → All (λ (q : Queued). q.number ≤ h) (map queued_of (messages_of f ms)) → All (λ (m : Message). same_flow f m.flow ≡ true → m.number ≤ h) ms
of_flow h f [] all = All-nil (λ (m : Message). same_flow f m.flow ≡ true → m.number ≤ h)
of_flow h f (m ∷ ms) all = by (same_flow f m.flow) refl all (of_flow h f ms) where
  P : Queued → Type 0
  P q = q.number ≤ h

  Q : Message → Type 0
  Q x = same_flow f x.flow ≡ true → x.number ≤ h

  by : (b : Bool) → same_flow f m.flow ≡ b → All P (map queued_of (cond b (m ∷ messages_of f ms) (messages_of f ms))) → (All P (map queued_of (messages_of f ms)) → All Q ms) → All Q (m ∷ ms)
  by true same here rest = All-cons Q m ms (λ e. All-head P (queued_of m) (map queued_of (messages_of f ms)) here) (rest (All-tail P (queued_of m) (map queued_of (messages_of f ms)) here))
  by false other here rest = All-cons Q m ms (λ e. (let both : true ≡ false = sym e ∙ other in absurd (cc))) (rest here)

-- in the queue of a host
pub queue_low : (h : ℕ) (n : Net) (i : ℕ) (s : State) (k : ℕ) → imp_at n.imps i ≡ Some s → IsSound n → NumbersUpTo h n → All (MessageUpTo h n.imps) (host_at s k).queue
queue_low h n i s k at is low =
    let q : List Message = (host_at s k).queue in
    let own : IsImp i s = subst (IsAt i) at (is.imps i) in
    All-weaker (Contains q) (MessageUpTo h n.imps) (λ m there up. (
    let home : m.flow.destination ≡ record { imp = i; host = k } = All-contains (λ (x : Message). x.flow.destination ≡ record { imp = i; host = k }) q m (own.queues k) there in
    let waits : (view n m.flow).queue ≡ map queued_of (messages_of m.flow q) =
    ap (λ (x : Host). map queued_of (receiver_at (imp_at n.imps x.imp) m.flow).queue) home
    ∙ ap (λ (o : Option State). map queued_of (receiver_at o m.flow).queue) at
    ∙ ap (λ (x : Host). map queued_of (messages_of m.flow (host_at s x.host).queue)) home in
    let all : All (λ (y : Queued). y.number ≤ h) (map queued_of (messages_of m.flow q)) = subst (All (λ (y : Queued). y.number ≤ h)) waits (view_low h n m.flow is low up) in
    All-contains (λ (x : Message). same_flow m.flow x.flow ≡ true → x.number ≤ h) q m (of_flow h m.flow q all) there (same_flow-refl m.flow)))
    q (All-contains_itself q)

-- in all queues of an IMP, and of all IMPs
hosts_all : (P : Message → Type 0) (hosts : List HostState) → ((k : ℕ) → All P (get_or hosts k no_host).queue) → All P (flat_map (λ (x : HostState). x.queue) hosts)
hosts_all P [] each = All-nil P
hosts_all P (x ∷ hosts) each = All-append P x.queue (flat_map (λ (y : HostState). y.queue) hosts) (each 0) (hosts_all P hosts (λ k. each (suc k)))

imps_all : (P : Message → Type 0) (imps : List (Option State)) → ((i : ℕ) → All P (messages_at_imp (imp_at imps i))) → All P (flat_map messages_at_imp imps)
imps_all P [] each = All-nil P
imps_all P (o ∷ imps) each = All-append P (messages_at_imp o) (flat_map messages_at_imp imps) (each 0) (imps_all P imps (λ i. each (suc i)))

messages_low : (h : ℕ) (n : Net) → IsSound n → NumbersUpTo h n → All (MessageUpTo h n.imps) (messages n)
messages_low h n is low = imps_all (MessageUpTo h n.imps) n.imps (λ i. by i (imp_at n.imps i) refl) where
  by : (i : ℕ) (o : Option State) → imp_at n.imps i ≡ o → All (MessageUpTo h n.imps) (messages_at_imp o)
  by i None at = All-nil (MessageUpTo h n.imps)
  by i (Some s) at = hosts_all (MessageUpTo h n.imps) _ (λ k. queue_low h n i s k at is low)

-- ---- so no higher number is alive

-- what no packet and no message passes is nowhere
imps_none : (test : PacketFields → Bool) (asked : Message → Bool) (imps : List (Option State)) → All (λ p. test p ≡ false) (flat_map packets_at_imp imps) → All (λ m. asked m ≡ false) (flat_map messages_at_imp imps)
    → list_any (says (λ s. list_any test (contents.packets s) || list_any asked (contents.messages s))) imps ≡ false
imps_none test asked [] ps ms = refl
imps_none test asked (o ∷ imps) ps ms =
    let P : PacketFields → Type 0 = λ p. test p ≡ false in
    let Q : Message → Type 0 = λ m. asked m ≡ false in
    let question : State → Bool = λ s. list_any test (contents.packets s) || list_any asked (contents.messages s) in
    let here : says question o ≡ false = at o (All_left P _ _ ps) (parts_left Q _ _ ms) in
    let rest : list_any (says question) imps ≡ false = imps_none test asked imps (All_right P _ _ ps) (parts_right Q _ _ ms) in
    or_from (says question o) (list_any (says question) imps) here rest
  where
    at : (x : Option State) → All (λ p. test p ≡ false) (packets_at_imp x) → All (λ m. asked m ≡ false) (messages_at_imp x) → says (λ s. list_any test (contents.packets s) || list_any asked (contents.messages s)) x ≡ false
    at None qs ns = refl
    at (Some s) qs ns =
        or_from (list_any test (contents.packets s)) (list_any asked (contents.messages s)) (list_any_none test (contents.packets s) qs) (list_any_none asked (contents.messages s) ns)

lines_none : (test : PacketFields → Bool) (lines : List Wire) → All (λ p. test p ≡ false) (flat_map packets_on_wire lines) → list_any (carries test) lines ≡ false
lines_none test [] ps = refl
lines_none test (w ∷ ws) ps =
    let P : PacketFields → Type 0 = λ p. test p ≡ false in
    let here : carries test w ≡ false = list_any_none test (packets_on_wire w) (All_left P _ _ ps) in
    let rest : list_any (carries test) ws ≡ false = lines_none test ws (All_right P _ _ ps) in
    or_from (carries test w) (list_any (carries test) ws) here rest

packet_apart : (h : ℕ) (imps : List (Option State)) (f : Flow) (number : ℕ) → imp_is_up (imp_at imps f.source.imp) ≡ true → h < number → (p : PacketFields) → PacketUpTo h imps p → packet_has f number p ≡ false
packet_apart h imps f number up above p low = elim (cases_Bool (packet_has f number p)) [
  | inl has ↦ (let both : (same_flow f (flow_of p) ≡ true) × ((p.number == number) ≡ true) = and_true (same_flow f (flow_of p)) (p.number == number) has in
      let ours : f ≡ flow_of p = same_flow-true f _ both.0 in
      let below : p.number ≤ h = low (ap (λ (g : Flow). imp_is_up (imp_at imps g.source.imp)) (sym ours) ∙ up) in
      let same : p.number ≡ number = eqb-true p.number number both.1 in
      absurd (omega (arith, below, same, above)))
  | inr other ↦ other
]

message_apart : (h : ℕ) (imps : List (Option State)) (f : Flow) (number : ℕ) → imp_is_up (imp_at imps f.source.imp) ≡ true → h < number → (m : Message) → MessageUpTo h imps m → message_has f number m ≡ false
message_apart h imps f number up above m low = elim (cases_Bool (message_has f number m)) [
  | inl has ↦ (let both : (same_flow f m.flow ≡ true) × ((m.number == number) ≡ true) = and_true (same_flow f m.flow) (m.number == number) has in
      let ours : f ≡ m.flow = same_flow-true f m.flow both.0 in
      let below : m.number ≤ h = low (ap (λ (g : Flow). imp_is_up (imp_at imps g.source.imp)) (sym ours) ∙ up) in
      let same : m.number ≡ number = eqb-true m.number number both.1 in
      absurd (omega (arith, below, same, above)))
  | inr other ↦ other
]

pub none_above : (h : ℕ) (n : Net) (f : Flow) (number : ℕ) → IsSound n → NumbersUpTo h n → imp_is_up (imp_at n.imps f.source.imp) ≡ true → h < number → false ≡ is_alive n f number
none_above h n f number is low up above =
    let apart : All (λ p. packet_has f number p ≡ false) (packets n) = All-weaker (PacketUpTo h n.imps) (λ (p : PacketFields). packet_has f number p ≡ false) (packet_apart h n.imps f number up above) (packets n) low.packets in
    let unread : All (λ m. message_has f number m ≡ false) (messages n) = All-weaker (MessageUpTo h n.imps) (λ (m : Message). message_has f number m ≡ false) (message_apart h n.imps f number up above) (messages n) (messages_low h n is low) in
    let P : PacketFields → Type 0 = λ p. packet_has f number p ≡ false in
    let held : list_any (says (λ s. holds s f number)) n.imps ≡ false = imps_none _ _ n.imps (All_left P _ _ apart) unread in
    let carried_so : list_any (carries (packet_has f number)) n.lines ≡ false = lines_none (packet_has f number) n.lines (All_right P (flat_map packets_at_imp n.imps) (flat_map packets_on_wire n.lines) apart) in
    sym (or_from (list_any (says _) n.imps) (list_any (carries _) n.lines) held carried_so)

-- ---- the events that make packets

cut_low : (h : ℕ) (imps : List (Option State)) (way : Way) (s : State) (m : HostMessage) → next_number s m.flow ≤ h → All (PacketUpTo h imps) (cut_for way s m)
cut_low h imps Nowhere s m next = All-nil (PacketUpTo h imps)
cut_low h imps Here s m next = All-nil (PacketUpTo h imps)
cut_low h imps Away s m next =
    each_packet m.flow _ _ (PacketUpTo h imps) (λ p of piece_of up. (let same : p.number ≡ next_number s m.flow = of.same_number in omega (arith, same, next)))

begun_next : (s : State) (f : Flow) → next_number s f ≡ moves.next_number (last s f)
begun_next s f = next_is _

offer_low : (h : ℕ) (n : Net) (m : HostMessage) → next_at (imp_at n.imps m.flow.source.imp) m.flow ≤ h → NumbersUpTo h n → NumbersUpTo h (offer_out n m)
offer_low h n m next low =
    let i : ℕ = m.flow.source.imp in
    let begins : (s : State) → imp_at n.imps i ≡ Some s → next_number s m.flow ≤ h =
    λ s at. subst (λ (k : ℕ). k ≤ h) (ap (λ (o : Option State). next_at o m.flow) at ∙ sym (begun_next s m.flow)) next in
    logged_low h (crossing.Out m ∷ []) _
    (making_low h n i _ _ (λ s at. from_host_low h s m (begins s at)) (offer_only n m) (by (imp_at n.imps i) begins) low)
  where
    by : (o : Option State) → ((s : State) → o ≡ Some s → next_number s m.flow ≤ h) → All (PacketUpTo h n.imps) (made_at o (λ s. from_host_makes s m))
    by None begins = All-nil (PacketUpTo h n.imps)
    by (Some s) begins = cut_low h n.imps _ s m (begins s refl)

-- a message that is taken, or that is dead
reply_low : (h : ℕ) (imps : List (Option State)) (k : PacketKind) (s : State) (m : Message) → MessageUpTo h imps m → All (PacketUpTo h imps) (reply_for k s m)
reply_low h imps k s m low = by (is_from_here s m) where
  by : (here : Bool) → All (PacketUpTo h imps) (cond here [] (answer_packet k m.flow m.number ∷ []))
  by true = All-nil (PacketUpTo h imps)
  by false = All-cons (PacketUpTo h imps) (answer_packet k m.flow m.number) [] low (All-nil (PacketUpTo h imps))

rfnm_low : (h : ℕ) (imps : List (Option State)) (s : State) (ts : List Told) (ms : List Message) → All (MessageUpTo h imps) ms → All (PacketUpTo h imps) (rfnm_for s ts ms)
rfnm_low h imps s (t ∷ ts) ms low = All-nil (PacketUpTo h imps)
rfnm_low h imps s [] (m ∷ ms) low = reply_low h imps _ s m (All-head (MessageUpTo h imps) m ms low)
rfnm_low h imps s [] [] low = All-nil (PacketUpTo h imps)

-- a host that takes is up
takes_up : (s : State) (k : ℕ) → to_host_refusal s k ≡ None → is_up s k ≡ true
takes_up s k accepted =
    let room : Option CarrierFault = if taking_has_room (host_at s k).answers (host_at s k).queue s then None else Some fault.NoRoom in
    let down : Option CarrierFault = if not (is_up s k) then Some fault.IsDown else room in
    let there : (not (is_there s k) ≡ false) × (down ≡ None) = guard _ _ down accepted in
    let up : (not (is_up s k) ≡ false) × (room ≡ None) = guard _ _ room there.1 in
    not_false _ up.0

take_low : (h : ℕ) (n : Net) (host : Host) → take_refusal n host ≡ None → IsSound n → NumbersUpTo h n → NumbersUpTo h (take_in n host)
take_low h n host accepted is low =
    let i : ℕ = host.imp in
    let k : ℕ = host.host in
    let there : (not (is_host n.hosts host) ≡ false) × (at_up (imp_at n.imps i) (λ s. to_host_refusal s k) ≡ None) = guard _ _ _ accepted in
    let each : (s : State) → imp_at n.imps i ≡ Some s → OutstandingUpTo h s → OutstandingUpTo h (to_host s k).state = λ s at. taken s at (subst (λ (o : Option State). at_up o (λ t. to_host_refusal t k) ≡ None) at there.1) in
    logged_low h _ _
    (making_low h n i _ _ each (take_only n host) (by (imp_at n.imps i) refl) low)
  where
    taken : (s : State) → imp_at n.imps host.imp ≡ Some s → to_host_refusal s host.host ≡ None → OutstandingUpTo h s → OutstandingUpTo h (to_host s host.host).state
    taken s at own =
        let k : ℕ = host.host in
        let own_imp : IsImp host.imp s = subst (IsAt host.imp) at (is.imps host.imp) in
        let Home : Host → Type 0 = λ x. x ≡ record { imp = host.imp; host = k } in
        to_host_low h s k _ _ (takes_up s k own) refl refl
        (λ t others first. ap (λ (x : Host). x.host) (All-head (λ (y : Told). Home y.flow.source) t others (subst (All (λ (y : Told). Home y.flow.source)) first (own_imp.answers k))))
        (λ m others first. ap (λ (x : Host). x.host) (All-head (λ (y : Message). Home y.flow.destination) m others (subst (All (λ (y : Message). Home y.flow.destination)) first (own_imp.queues k))))

    by : (o : Option State) → imp_at n.imps host.imp ≡ o → All (PacketUpTo h n.imps) (made_at o (λ s. to_host_makes s host.host))
    by None at = All-nil (PacketUpTo h n.imps)
    by (Some s) at = rfnm_low h n.imps s _ _ (queue_low h n _ s _ at is low)

stop_low : (h : ℕ) (n : Net) (host : Host) → IsSound n → NumbersUpTo h n → NumbersUpTo h (host_stopped n host)
stop_low h n host is low =
    let i : ℕ = host.imp in
    logged_low h (crossing.Down host ∷ []) _
    (making_low h n i _ _ (λ s at. host_down_low h s host.host) (stop_only n host) (by (imp_at n.imps i) refl) low)
  where
    by : (o : Option State) → imp_at n.imps host.imp ≡ o → All (PacketUpTo h n.imps) (made_at o (λ s. host_down_makes s host.host))
    by None at = All-nil (PacketUpTo h n.imps)
    by (Some s) at = dead_all (PacketUpTo h n.imps) s _ (queue_low h n _ s _ at is low)

asked_low : (h : ℕ) (n : Net) (f : Flow) → NumbersUpTo h n → NumbersUpTo h (at_imp (imp_at n.imps f.source.imp) f.source.imp (λ s. ask s f) n)
asked_low h n f low =
    let i : ℕ = f.source.imp in
    making_low h n i _ _ (λ s at. ask_low h s f) (ask_only n f) (by (imp_at n.imps i) (imp_low h n.imps i low.outstanding)) low
  where
    question : (o : Option ℕ) → ((number : ℕ) → o ≡ Some number → number ≤ h) → All (PacketUpTo h n.imps) (question_for o f)
    question None below = All-nil (PacketUpTo h n.imps)
    question (Some number) below = All-cons (PacketUpTo h n.imps) (answer_packet kind.Ask f number) [] (λ up. below number refl) (All-nil (PacketUpTo h n.imps))

    by : (o : Option State) → ImpUpTo h o → All (PacketUpTo h n.imps) (made_at o (λ s. ask_makes s f))
    by None below = All-nil (PacketUpTo h n.imps)
    by (Some s) below = question _ (below f)

-- a packet that comes in, and what is answered about it
answer_low : (h : ℕ) (imps : List (Option State)) (a : Arrival) (p : PacketFields) → PacketUpTo h imps p → All (PacketUpTo h imps) (told_for a p)
answer_low h imps (Undeliverable new told) p low = All-cons (PacketUpTo h imps) (answer_packet told (flow_of p) p.number) [] low (All-nil (PacketUpTo h imps))
answer_low h imps (Replying told) p low = All-cons (PacketUpTo h imps) (answer_packet told (flow_of p) p.number) [] low (All-nil (PacketUpTo h imps))
answer_low h imps Passing p low = All-nil (PacketUpTo h imps)
answer_low h imps Old p low = All-nil (PacketUpTo h imps)
answer_low h imps Piece p low = All-nil (PacketUpTo h imps)
answer_low h imps NoSlot p low = All-nil (PacketUpTo h imps)
answer_low h imps (Whole text) p low = All-nil (PacketUpTo h imps)
answer_low h imps Unmarked p low = All-nil (PacketUpTo h imps)
answer_low h imps (Answering k) p low = All-nil (PacketUpTo h imps)

content_low : (h : ℕ) (imps : List (Option State)) (s : State) (c : Content) → ContentHas (PacketUpTo h imps) c → All (PacketUpTo h imps) (flat_map (λ p. told_for (arrival s p) p) (carried_by c))
content_low h imps s (content.Packet carried) low =
    All-append (PacketUpTo h imps) (told_for (arrival s carried.packet) carried.packet) [] (answer_low h imps _ _ low) (All-nil (PacketUpTo h imps))
content_low h imps s content.Nothing low = All-nil (PacketUpTo h imps)
content_low h imps s (content.Routes distances) low = All-nil (PacketUpTo h imps)

deliver_low : (h : ℕ) (n : Net) (l : ℕ) (d : Direction) (k : ℕ) → NumbersUpTo h n → NumbersUpTo h (deliver n l d k)
deliver_low h n l d k low =
    let has : NetHas P n = packets_net P n low.packets in
    by (slice_get (frames_on d (wire_at n.lines l)) k) (got_has P _ k (way_holds _ d _ (wire_holds _ _ l has.lines))) (deliver_only n l d k)
  where
    P : PacketFields → Type 0
    P = PacketUpTo h n.imps

    made : (o : Option State) (f : Frame) → FrameHas P f → All P (made_at o (told_made f))
    made None f has = All-nil P
    made (Some s) f has = content_low h n.imps s _ has

    by : (o : Option Frame) → GotHas P o → OnlyNew n (frame_makes (imp_at n.imps (far_end d (wire_at n.lines l))) o) (delivered n l d o) → NumbersUpTo h (delivered n l d o)
    by None has only = low
    by (Some f) has only =
        let i : ℕ = far_end d _ in
        making_low h n i _ _ (λ s at. from_line_low h s (port_of n.lines i l) f) only (made _ f has) low

-- ---- the other events

drop_low : (h : ℕ) (n : Net) (l : ℕ) (d : Direction) (k : ℕ) → NumbersUpTo h n → NumbersUpTo h (drop_frame n l d k)
drop_low h n l d k low = record { outstanding = low.outstanding; packets = none_new h n (drop_frame n l d k) (drop_nothing n l d k) (λ j up. up) low.packets }

resend_low : (h : ℕ) (n : Net) (i : ℕ) → NumbersUpTo h n → NumbersUpTo h (at_imp (imp_at n.imps i) i resend n)
resend_low h n i low = quiet_low h n i resend (λ s here. here) (resend_nothing n i) low

route_low : (h : ℕ) (n : Net) (i : ℕ) → NumbersUpTo h n → NumbersUpTo h (at_imp (imp_at n.imps i) i route n)
route_low h n i low = quiet_low h n i route (λ s here. here) (route_nothing n i) low

down_before : (imps : List (Option State)) (i j : ℕ) → imp_is_up (imp_at (slice_set imps i None) j) ≡ true → imp_is_up (imp_at imps j) ≡ true
down_before [] i j up = up
down_before (o ∷ imps) zero zero up = absurd (cc)
down_before (o ∷ imps) zero (suc j) up = up
down_before (o ∷ imps) (suc i) zero up = up
down_before (o ∷ imps) (suc i) (suc j) up = down_before imps i j up

stop_imp_low : (h : ℕ) (n : Net) (i : ℕ) → NumbersUpTo h n → NumbersUpTo h (imp_stopped n i)
stop_imp_low h n i low = record {
  outstanding = All-set (ImpUpTo h) n.imps i None tt low.outstanding;
  packets = none_new h n (imp_stopped n i) (stop_imp_nothing n i) (λ j. down_before n.imps i j) low.packets;
}

started_none : (h i hosts ports : ℕ) → OutstandingUpTo h (started_imp i hosts ports)
started_none h i hosts ports f number is =
    let none : outstanding (started_imp i hosts ports) f ≡ None = ap outstanding_in (get-empty flow_cmp f) in
    absurd (cc)

-- an IMP starts where nothing of its flows is alive
start_imp_low : (h : ℕ) (n : Net) (i : ℕ) → starting_refusal n i ≡ None → NumbersUpTo h n → NumbersUpTo h (imp_started n i)
start_imp_low h n i allowed low =
    let last_one : Option CarrierFault = if is_some (imp_at n.imps i) then Some fault.IsUp else None in
    let fourth : Option CarrierFault = first_of (is_awaited n i) fault.StillAlive last_one in
    let third : Option CarrierFault = first_of (is_remembered n i) fault.StillAlive fourth in
    let second : Option CarrierFault = first_of (has_flow n i) fault.StillAlive third in
    let there : (not (is_imp n i) ≡ false) × (second ≡ None) = guard _ _ second allowed in
    let gone : (has_flow n i ≡ false) × (third ≡ None) = guard _ fault.StillAlive third there.1 in
    let apart : All (λ p. packet_touches i p ≡ false) (packets n) = (nowhere n _ _ gone.0).0 in
    let s : State = started_imp i (hosts_at (site_at n i)) (count_by (ends_at i) n.lines) in
    record {
      outstanding = All-set (ImpUpTo h) n.imps i (Some s) (started_none h i (hosts_at (site_at n i)) (count_by (ends_at i) n.lines)) low.outstanding;
      packets = All-weaker (Contains (packets n)) (PacketUpTo h (imp_started n i).imps) (λ p there_so up.
          one s p (All-contains (λ q. packet_touches i q ≡ false) (packets n) p apart there_so) (All-contains (PacketUpTo h n.imps) (packets n) p low.packets there_so) up) (packets (imp_started n i)) (start_imp_nothing n i);
    }
  where
    one : (s : State) (p : PacketFields) → packet_touches i p ≡ false → PacketUpTo h n.imps p → imp_is_up (imp_at (slice_set n.imps i (Some s)) p.source.imp) ≡ true → p.number ≤ h
    one s p apart below up =
        let other : (p.source.imp == i) ≡ false = (or_false (p.source.imp == i) _ apart).0 in
        let same : imp_at (slice_set n.imps i (Some s)) p.source.imp ≡ imp_at n.imps p.source.imp =
        get_or-set_other n.imps i p.source.imp (Some s) None (λ (e : p.source.imp ≡ i). let both : true ≡ false = sym (eq-eqb p.source.imp i e) ∙ other in cc) in
        below (ap imp_is_up (sym same) ∙ up)

step_low : (h : ℕ) (n : Net) (e : NetEvent) → step_refusal n e ≡ None → IsSound n → NumbersUpTo h n → NumbersUpTo h (stepped n e)
step_low h n (event.Deliver l d k) allowed is low = deliver_low h n l d k low
step_low h n (event.Drop l d k) allowed is low = drop_low h n l d k low
step_low h n (event.Garble l d k) allowed is low = drop_low h n l d k low
step_low h n (event.Resend i) allowed is low = resend_low h n i low
step_low h n (event.Route i) allowed is low = route_low h n i low
step_low h n (event.Claim i) allowed is low = quiet_low h n i claim (λ s here. here) (claim_nothing n i) low
step_low h n (event.EndDown i l) allowed is low = quiet_low h n i _ (λ s here. here) (end_down_nothing n i _) low
step_low h n (event.EndUp i l) allowed is low = quiet_low h n i _ (λ s here. here) (end_up_nothing n i _) low
step_low h n (event.ImpDown i) allowed is low = stop_imp_low h n i low
step_low h n (event.ImpUp i) allowed is low = start_imp_low h n i allowed low
step_low h n (event.HostDown host) allowed is low = stop_low h n host is low
step_low h n (event.HostUp host) allowed is low =
    let i : ℕ = host.imp in
    record {
      outstanding = called_low h n i _ (λ s at here. here) low.outstanding;
      packets = none_new h n (host_started n host) (start_host_nothing n host) (called_up n i _) low.packets;
    }
step_low h n (event.GiveUp f) allowed is low = quiet_low h n _ _ (λ s. give_up_low h s f) (give_up_nothing n _ f) low
step_low h n (event.Forget at from) allowed is low = quiet_low h n at _ (λ s here. here) (forget_nothing n at from) low
step_low h n (event.Abandon f) allowed is low = quiet_low h n _ _ (λ s here. here) (abandon_nothing n _ f) low
step_low h n (event.Ask f) allowed is low = asked_low h n f low

round_low : (h : ℕ) (n : Net) → NumbersUpTo h n → NumbersUpTo h (quiet_round n)
round_low h n low = round_keeps _ (record { route = route_low h; resend = resend_low h; deliver = deliver_low h; drop = drop_low h }) n low

-- ---- the opening

opened_low : (h i : ℕ) (sites : List (Option ℕ)) (ports : ℕ → ℕ) → All (ImpUpTo h) (opened_from i sites ports)
opened_low h i [] ports = All-nil (ImpUpTo h)
opened_low h i (site ∷ sites) ports = All-cons (ImpUpTo h) (opened_imp i site (ports i)) (opened_from (i + 1) sites ports) (at site) (opened_low h (i + 1) sites ports) where
  at : (o : Option ℕ) → ImpUpTo h (opened_imp i o (ports i))
  at None = tt
  at (Some hosts) = λ f number is. (
      let none : outstanding (imp.opening_node i hosts (ports i)) f ≡ None = ap outstanding_in (get-empty flow_cmp f) in
      absurd (cc))

opening_low : (hosts : List Host) (sites : List (Option ℕ)) (ends : List Ends) → NumbersUpTo 0 (opening_subnet hosts sites ends)
opening_low hosts sites ends =
    let n : Net = opening_subnet hosts sites ends in
    record {
      outstanding = opened_low 0 0 sites _;
      packets = subst (All (PacketUpTo 0 n.imps)) (sym (opening_empty hosts sites ends)) (All-nil (PacketUpTo 0 n.imps));
    }

-- ---- what the field of the subnet keeps

unchanged : (refusal : Option CarrierFault) (grows : Bool) (e : CarrierFault) (old n : Net) (b : Bool) → Fails refusal grows b e old n → b ≡ false → n ≡ old
unchanged refusal grows e old n true fails goes = absurd (cc)
unchanged refusal grows e old n false fails goes = fails.1

-- a call that leaves a subnet running is refused and changes nothing, or succeeds
after_call : {T : Type 0} (refusal : Option CarrierFault) (grows : Bool) (Gives : T → Type 0) (old n : Net) (r : Result T CarrierFault) (Q : Net → Type 0) → CallEnds refusal grows Gives old n r → runs_out r ≡ false
    → Q old → ((x : T) → refusal ≡ None → Gives x → Q n) → Q n
after_call {T} refusal grows Gives old n (Ok x) Q ends goes q each = each x ends.0 ends.1
after_call {T} refusal grows Gives old n (Err e) Q ends goes q each = subst Q (sym (unchanged refusal grows e old n _ ends goes)) q

pub offer_bound : (h begun : ℕ) (old : Net) (m : HostMessage) (n : Net) (r : Result (Unit {0}) CarrierFault) (k : ℕ) → k ≡ max h begun → begun ≡ next_at (imp_at old.imps m.flow.source.imp) m.flow
    → CallEnds (offer_refusal old m) true (λ done. n ≡ offer_out old m) old n r → NumbersUpTo h old → runs_out r ≡ false → NumbersUpTo k n
offer_bound h begun old m n r k is next ends low goes =
    let more : h ≤ k = subst (λ (j : ℕ). h ≤ j) (sym is) (le-max_left h begun) in
    let most : begun ≤ k = subst (λ (j : ℕ). begun ≤ j) (sym is) (le-max_right h begun) in
    let at : NumbersUpTo k old = higher h k old more low in
    after_call _ true _ old n r (NumbersUpTo k) ends goes at
    (λ x none gives. subst (NumbersUpTo k) (sym gives) (offer_low k old m (subst (λ (j : ℕ). j ≤ k) next most) at))

pub take_bound : (h : ℕ) (old : Net) (host : Host) (n : Net) (r : Result (Option Inbound) CarrierFault) → CallEnds (take_refusal old host) (take_grows old host) (λ given. (given ≡ taken_by_host old host) × (n ≡ take_in old host)) old n r
    → IsSound old → NumbersUpTo h old → runs_out r ≡ false → NumbersUpTo h n
take_bound h old host n r ends is low goes =
    after_call _ _ _ old n r (NumbersUpTo h) ends goes low
    (λ x none gives. subst (NumbersUpTo h) (sym gives.1) (take_low h old host none is low))

pub step_bound : (h : ℕ) (old : Net) (e : NetEvent) (n : Net) (r : Result (Unit {0}) CarrierFault) → Steps e old n r → IsSound old → NumbersUpTo h old → runs_out r ≡ false → NumbersUpTo h n
step_bound h old e n r ends is low goes =
    after_call _ _ _ old n r (NumbersUpTo h) ends goes low
    (λ x none gives. subst (NumbersUpTo h) (sym gives) (step_low h old e none is low))

pub round_bound : (h : ℕ) (old n : Net) → n ≡ quiet_round old → NumbersUpTo h old → NumbersUpTo h n
round_bound h old n is low = subst (NumbersUpTo h) (sym is) (round_low h old low)

pub opened_bound : (hosts : List Host) (sites : List (Option ℕ)) (ends : List Ends) (n : Net) → n ≡ opening_subnet hosts sites ends → NumbersUpTo 0 n
opened_bound hosts sites ends n is = subst (NumbersUpTo 0) (sym is) (opening_low hosts sites ends)
