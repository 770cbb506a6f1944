-- How many messages of data came to a host on a link, by the law of streams: only one that it takes or drops there counts.
use Rattle.world_keeps_streams.proofs.Common.{◌≡◌, ℕ, ◌==◌, ◌&&◌, Bool, true, false, if◌then◌else◌, List, [], ◌∷◌, ◌++◌, take, Option, Some, None, refl, ap, sym, subst, ◌∙◌, Host, same_host, Flow, HostMessage, header_of, is_ready, Command, DataHeader, holds, Legal, Order, Wrong, orders_of, desk_of, listener_on, listens_on, entry_at, free_link, is_busy, receives_on, PairState, Parcel, command_gone, with_connections, TurnState, order_taken, Entry, Listener, all_received, eqb-sym, IsAsking, turn_of, NcpState, owner_of, pair_with, next_in, Peer, Request, Asked, Crossed, Moment, places, program}
use Rattle.host_keeps_streams.specs.Histories.{Hears, Takes, Says, Answered, OpensReceiver, OpensSender, Grants, AsksBack, Gives, Closes, name_now, receiver_now, received_at, Call}
use Rattle.host_keeps_streams.specs.Moves.{cls_received, data_received, received_by, received_out, str_received, asks_for}
use Rattle.promise.specs.Formed.{text_of}
use Rattle.world_keeps_streams.specs.Calls.{answer_calls, calls_by, commands_said, message_calls, next_calls, orders_heard, owner_calls, parcel_calls, request_calls, called}
use Rattle.interface.specs.Flow.{same_flow}
use Rattle.interface.specs.declared.crossing.Crossing.TheVariants as crossing
use Rattle.ncp_control.specs.declared.command.Command.TheVariants as command
use Rattle.stream_law.specs.Words as words
use Rattle.stream_law.specs.Receivers as receivers
use Rattle.stream_law.specs.Receivers.{Receiver}
use Rattle.host_pairs.specs.Parcels as parcel
use Rattle.host_keeps_streams.specs.Histories as calls
use Rattle.host_keeps_streams.specs.Names.{named}
use Rattle.sockets.specs.declared.request.Request.TheVariants as request
use Rattle.world_keeps_streams.proofs.Deeds.Law.{AreStill, IsStill, asks_still, cls_still, out_still, str_still}
use Rattle.world_keeps_streams.proofs.Stays.Quiet.{Asks, IsSolo, Quiet, Replied, Told}

-- ---- moves

abbrev IsUntaken : receivers.Move → Type 0
IsUntaken (receivers.Take z bits) = ⊥
IsUntaken m = Unit {0}

abbrev AreUntaken : List receivers.Move → Type 0
AreUntaken [] = Unit {0}
AreUntaken (m ∷ ms) = IsUntaken m × AreUntaken ms

back_came : (m n : ℕ) (o : Option ℕ) (r : Receiver) → (receivers.takes_back m n o r).came ≡ r.came
back_came m n None r = refl
back_came m n (Some k) r = by (receivers.is_open k r && holds r.allocation m n) refl where
  by : (v : Bool) → (receivers.is_open k r && holds r.allocation m n) ≡ v → (receivers.takes_back m n (Some k) r).came ≡ r.came
  by true t = rw t refl
  by false t = rw t refl

heard_came : (w : words.Word) (r : Receiver) → (receivers.hears w r).came ≡ r.came
heard_came (words.Ret c m n) r = back_came m n r.end r
heard_came w r = refl

one_came : (m : receivers.Move) (r : Receiver) → IsUntaken m → (receivers.moved m r).came ≡ r.came
one_came (receivers.Take z bits) r u = absurd u
one_came (receivers.Hear w) r u = heard_came w r
one_came m r u = refl

all_came : (ms : List receivers.Move) (r : Receiver) → AreUntaken ms → (all_received ms r).came ≡ r.came
all_came [] r u = refl
all_came (m ∷ ms) r u = all_came ms (receivers.moved m r) u.1 ∙ one_came m r u.0

still_untaken : (ms : List receivers.Move) → AreStill ms → AreUntaken ms
still_untaken [] s = tt
still_untaken (m ∷ ms) s = (one m s.0, still_untaken ms s.1) where
  one : (m : receivers.Move) → IsStill m → IsUntaken m
  one (receivers.Take z bits) t = absurd t
  one m t = tt

if_untaken : (v : Bool) (ms : List receivers.Move) → AreUntaken ms → AreUntaken (if v then ms else [])
if_untaken true ms u = u
if_untaken false ms u = tt

-- ---- calls

abbrev pub IsUntakenCall : Call → Type 0
IsUntakenCall (Takes l text) = ⊥
IsUntakenCall k = Unit {0}

abbrev pub AreUntakenCalls : List calls.Moment → Type 0
AreUntakenCalls [] = Unit {0}
AreUntakenCalls (m ∷ ms) = IsUntakenCall m.call × AreUntakenCalls ms

module _ (name : ℕ → ℕ → ℕ) (link : ℕ) where
  hears_untaken : (said : ℕ) (c : Command) (q : PairState) (listening : List Listener) → AreUntaken (received_by name link said c (desk_of q listening))
  hears_untaken said (command.Str send receive size) q listening =
      still_untaken (str_received link (name receive send) size (listener_on receive listening) (free_link q.entries) (entry_at receive send q.entries))
      (str_still name link (name receive send) size (listener_on receive listening) (free_link q.entries) (entry_at receive send q.entries))
  hears_untaken said (command.Cls foreign own) q listening =
      still_untaken (cls_received link (name own foreign) (entry_at own foreign q.entries)) (cls_still name link (name own foreign) (entry_at own foreign q.entries))
  hears_untaken said (command.Ret l m n) q listening = if_untaken (l == link) (receivers.Hear (words.Ret said m n) ∷ []) (tt, tt)
  hears_untaken said c q listening = tt

  call_untaken : (k : Call) (q : PairState) (listening : List Listener) → IsUntakenCall k → AreUntaken (received_at name link k q listening)
  call_untaken (Hears stamp said c) q listening u = hears_untaken said c q listening
  call_untaken (Takes l text) q listening u = absurd u
  call_untaken (Says stamp c) q listening u = still_untaken (received_out name link c q.entries) (out_still name link c q.entries)
  call_untaken (OpensReceiver own foreign) q listening u = still_untaken (asks_for link (name own foreign) (free_link q.entries)) (asks_still name link (name own foreign) (free_link q.entries))
  call_untaken (Grants socket m n e) q listening u = if_untaken (receives_on link e) (receivers.Grant (named name e) m n ∷ []) (tt, tt)
  call_untaken (AsksBack socket m n e) q listening u = if_untaken (receives_on link e) (receivers.AskBack (named name e) m n ∷ []) (tt, tt)
  call_untaken (Closes socket e) q listening u = if_untaken (receives_on link e) (receivers.Close (named name e) ∷ []) (tt, tt)
  call_untaken k q listening u = tt

module _ (number : ℕ → ℕ → ℕ → ℕ) (peer : Host) (link : ℕ) where
  calls_came : (more own : List calls.Moment) → AreUntakenCalls more → (receiver_now number peer link (more ++ own)).came ≡ (receiver_now number peer link own).came
  calls_came [] own u = refl
  calls_came (m ∷ more) own u =
      all_came _ _ (call_untaken (name_now number peer (more ++ own)) link m.call m.pair m.listening u.0) ∙ calls_came more own u.1

  pub none_came : (own : List calls.Moment) → AreUntakenCalls own → (c : ℕ) → (receiver_now number peer link own).came c ≡ 0
  none_came [] u c = refl
  none_came (m ∷ own) u c =
      ap (λ (f : ℕ → ℕ). f c) (all_came _ _ (call_untaken (name_now number peer own) link m.call m.pair m.listening u.0)) ∙ none_came own u.1 c

-- what a host does by itself
solo_call : (k : Call) (q : PairState) → Quiet k q → IsUntakenCall k
solo_call k q (Asks is may paired) = asking k is where
  asking : (k : Call) → IsAsking k → IsUntakenCall k
  asking (Takes l text) i = absurd i
  asking k i = tt
solo_call k q (Told l is) = subst IsUntakenCall (sym is) tt
solo_call k q (Replied stamp is) = subst IsUntakenCall (sym is) tt

pub solo_untaken : (peer : Host) (own : List calls.Moment) (queue : List Command) → IsSolo peer own queue → AreUntakenCalls own
solo_untaken peer [] queue h = tt
solo_untaken peer (m ∷ own) queue h = (solo_call m.call m.pair h.0, solo_untaken peer own m.pair.queue h.2)

-- ---- moments

heard_untaken : (peer : Host) (stamp : ℕ) (orders : List Order) (t : TurnState) (older : List calls.Moment) → AreUntakenCalls older → AreUntakenCalls (orders_heard peer stamp orders t older)
heard_untaken peer stamp [] t older u = u
heard_untaken peer stamp (Legal c ∷ orders) t older u = heard_untaken peer stamp orders (order_taken peer stamp (Legal c) t) (called (Hears stamp 0 c) t.pair t.listening ∷ older) (tt, u)
heard_untaken peer stamp (Wrong code octets ∷ orders) t older u = heard_untaken peer stamp orders (order_taken peer stamp (Wrong code octets) t) older u

said_untaken : (peer : Host) (stamp : ℕ) (cs : List Command) (q : PairState) (listening : List Listener) (older : List calls.Moment) → AreUntakenCalls older → AreUntakenCalls (commands_said peer stamp cs q listening older)
said_untaken peer stamp [] q listening older u = u
said_untaken peer stamp (c ∷ cs) q listening older u =
    said_untaken peer stamp cs (with_connections q (command_gone peer stamp c (desk_of q listening))) listening (called (Says stamp c) q listening ∷ older) (tt, u)

either_calls : (v : Bool) (cs : List calls.Moment) → AreUntakenCalls cs → AreUntakenCalls (if v then cs else [])
either_calls true cs u = u
either_calls false cs u = tt

parcel_untaken : (peer : Host) (stamp : ℕ) (p : Parcel) (q : PairState) (listening : List Listener) → AreUntakenCalls (parcel_calls peer stamp p q listening)
parcel_untaken peer stamp parcel.Reset q listening = tt
parcel_untaken peer stamp parcel.Reply q listening = tt
parcel_untaken peer stamp (parcel.Commands count) q listening = said_untaken peer stamp (take count q.queue) q listening [] tt
parcel_untaken peer stamp (parcel.Bytes e size count) q listening = (tt, tt)

next_untaken : (peer : Host) (stamp : ℕ) (listening : List Listener) (o : Option (Peer × Parcel)) → AreUntakenCalls (next_calls peer stamp listening o)
next_untaken peer stamp listening None = tt
next_untaken peer stamp listening (Some (p, g)) = either_calls _ _ (parcel_untaken peer stamp g p.pair listening)

owner_untaken : (peer : Host) (call : Entry → Call) → ((e : Entry) → IsUntakenCall (call e)) → (q : PairState) (listening : List Listener) (o : Option (Host × Entry)) → AreUntakenCalls (owner_calls peer call q listening o)
owner_untaken peer call u q listening None = tt
owner_untaken peer call u q listening (Some (h, e)) = either_calls (same_host peer h) (called (call e) q listening ∷ []) (u e, tt)

request_untaken : (peer : Host) (s : NcpState) (r : Request) → AreUntakenCalls (request_calls peer s r)
request_untaken peer s (request.OpenSend host own foreign size) = either_calls (same_host peer host) (called (OpensSender own foreign size) (pair_with peer s.peers) s.listening ∷ []) (tt, tt)
request_untaken peer s (request.OpenReceive host own foreign) = either_calls (same_host peer host) (called (OpensReceiver own foreign) (pair_with peer s.peers) s.listening ∷ []) (tt, tt)
request_untaken peer s (request.Send socket bits) = owner_untaken peer (Gives socket bits) (λ e. tt) (pair_with peer s.peers) s.listening (owner_of socket s.peers)
request_untaken peer s (request.Grant socket m n) = owner_untaken peer (Grants socket m n) (λ e. tt) (pair_with peer s.peers) s.listening (owner_of socket s.peers)
request_untaken peer s (request.AskBack socket m n) = owner_untaken peer (AsksBack socket m n) (λ e. tt) (pair_with peer s.peers) s.listening (owner_of socket s.peers)
request_untaken peer s (request.Close socket) = by (listens_on socket s.listening) where
  by : (v : Bool) → AreUntakenCalls (if v then [] else owner_calls peer (Closes socket) (pair_with peer s.peers) s.listening (owner_of socket s.peers))
  by true = tt
  by false = owner_untaken peer (Closes socket) (λ e. tt) (pair_with peer s.peers) s.listening (owner_of socket s.peers)
request_untaken peer s r = tt

answer_untaken : (l : ℕ) (q : PairState) (listening : List Listener) → AreUntakenCalls (answer_calls l q listening)
answer_untaken l q listening = either_calls (is_busy q.busy l) (called (Answered l) q listening ∷ []) (tt, tt)

-- the messages from `b` to `a` on a link
abbrev pub flow_to : Host → Host → ℕ → Flow
flow_to a b link = record { source = b; destination = a; link = record { 0 = link } }

-- a moment in which none of them is taken
abbrev pub IsQuiet : Host → Host → ℕ → Moment → Type 0
IsQuiet a b link (Crossed c) = text_of true (flow_to a b link) c ≡ []
IsQuiet a b link (Asked h r) = Unit {0}

-- counts nothing on the link
module _ (number : ℕ → ℕ → ℕ → ℕ) (a b : Host) (link : ℕ) (own : List calls.Moment) where
  abbrev Same : List calls.Moment → Type 0
  Same more = (receiver_now number b link (more ++ own)).came ≡ (receiver_now number b link own).came

  untaken : (more : List calls.Moment) → AreUntakenCalls more → Same more
  untaken more u = calls_came number b link more own u

  elsewhere : (l : ℕ) (text : List Bool) (q : PairState) (listening : List Listener) → (l == link) ≡ false → Same (called (Takes l text) q listening ∷ [])
  elsewhere l text q listening away = by (header_of text) where
    by : (o : Option DataHeader) → (all_received (data_received link l text o) (receiver_now number b link own)).came ≡ (receiver_now number b link own).came
    by None = refl
    by (Some h) = rw away refl

  message_same : (stamp l : ℕ) (text : List Bool) (t : TurnState) → (l == link) ≡ false → Same (message_calls b stamp l text t)
  message_same stamp l text t away = by (is_ready t.pair.phase) (l == 0) where
    by : (v w : Bool) → Same (if v then (if w then orders_heard b stamp (orders_of text) t [] else called (Takes l text) t.pair t.listening ∷ []) else [])
    by true true = untaken (orders_heard b stamp (orders_of text) t []) (heard_untaken b stamp (orders_of text) t [] tt)
    by true false = elsewhere l text t.pair t.listening away
    by false w = refl

  in_same : (m : HostMessage) (ms : List Moment) → same_flow (flow_to a b link) m.flow ≡ false → Same (calls_by a b (Crossed (crossing.In m)) ms)
  in_same m ms away = by (same_host a m.flow.destination) (same_host b m.flow.source) refl refl where
    apart : same_host a m.flow.destination ≡ true → same_host b m.flow.source ≡ true → (link == m.flow.link.0) ≡ false
    apart e f = rw (e, f) at away

    by : (v w : Bool) → same_host a m.flow.destination ≡ v → same_host b m.flow.source ≡ w → Same (if v && w then message_calls b (places ms) m.flow.link.0 m.text (turn_of (program a ms) b) else [])
    by true true e f = message_same (places ms) m.flow.link.0 m.text (turn_of (program a ms) b) (eqb-sym m.flow.link.0 link ∙ apart e f)
    by true false e f = refl
    by false w e f = refl

  pub count_same : (y : Moment) (ms : List Moment) → IsQuiet a b link y → (receiver_now number b link (calls_by a b y ms ++ own)).came ≡ (receiver_now number b link own).came
  count_same (Crossed (crossing.Out m)) ms quiet =
      untaken (calls_by a b (Crossed (crossing.Out m)) ms)
      (either_calls (same_host a m.flow.source) (next_calls b (places ms) (program a ms).listening (next_in (program a ms).peers)) (next_untaken b (places ms) (program a ms).listening (next_in (program a ms).peers)))
  count_same (Crossed (crossing.In m)) ms quiet = in_same m ms (by (same_flow (flow_to a b link) m.flow) quiet) where
    by : (v : Bool) → (if v then m.text ∷ [] else []) ≡ [] → v ≡ false
    by true e = absurd (let no : m.text ∷ [] ≡ [] = e in cc)
    by false e = refl
  count_same (Crossed (crossing.Answer kind f)) ms quiet =
      untaken (calls_by a b (Crossed (crossing.Answer kind f)) ms)
      (either_calls (same_host a f.source && same_host b f.destination) (answer_calls f.link.0 (pair_with b (program a ms).peers) (program a ms).listening) (answer_untaken f.link.0 (pair_with b (program a ms).peers) (program a ms).listening))
  count_same (Crossed (crossing.Down h)) ms quiet = refl
  count_same (Crossed (crossing.Up h)) ms quiet = refl
  count_same (Asked h r) ms quiet =
      untaken (calls_by a b (Asked h r) ms) (either_calls (same_host a h) (request_calls b (program a ms) r) (request_untaken b (program a ms) r))
