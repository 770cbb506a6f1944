-- A host goes down: so do the sources and the destinations of all its flows. The messages that waited for it give Dead: as
-- packets to other IMPs, and at once to the hosts of its own.
use Rattle.subnet.proofs.Common.{slice_set, flat_map, cases_Bool, All-nil, All-cons, All-head, All-tail, All-append, All-weaker, All-contains, All-contains_itself, Contains-append_right, Contains-append_cases, same_flow, Host, same_host, is_host, Box, box_of, Flow, CarrierFault, Crossing, release_in, Release, PacketFields, IsPacket, flow_of, View, Packet, Queued, Kind, Follows, AllFollow, passed_over, Invariant, Message, answer_packet, freed, fated, stored, outstanding, IsImp, Sender, Receiver, sender, receiver, messages_of, ended_with, fated_with, message_returned, all_returned, stopped, host_down, host_down_refusal, is_from_here, Net, imp_at, with_turn, packets, at_imp, at_up, at_host_refusal, logging, host_stopped, OnlyNew, made_at, IsAt, IsSound}
use Rattle.imp_node.specs.Taking.{reply_has_room}
use Rattle.std.proofs.Common.{◌≡◌, ℕ, Bool, true, false, not, List, [], ◌∷◌, ◌++◌, map, Option, Some, None, refl, ap, sym, subst, ◌∙◌, ◌==◌, ◌&&◌, if◌then◌else◌, cond, ◌⊎◌, inl, inr, eqb-true, All, Contains}
use Rattle.std.specs.FinMap as finite
use Rattle.interface.specs.declared.carrier.CarrierFault.TheVariants as fault
use Rattle.interface.specs.declared.crossing.Answer.TheVariants as answer
use Rattle.interface.specs.declared.crossing.Crossing.TheVariants as crossing
use Rattle.interface.proofs.lemmas.{and_true, guard, not_false, same_flow-refl, same_flow-true, same_host-refl, same_host-true}
use Rattle.link_table.specs.declared.destination.Fate.TheVariants as fate
use Rattle.packetiser.specs.declared.packet.PacketKind.TheVariants as kind
use Rattle.flow_law.specs.Moves.{Move, IsDeadOf, view_moved, after_all, shown_by}
use Rattle.flow_law.specs.Local as local
use Rattle.flow_law.specs.Local.{stopped_host, stopped_host_queued}
use Rattle.flow_law.proofs.lemmas.{down_shown, queued_alone, queued_awaited}
use Rattle.imp_node.specs.State.{State, ImpTurn, no_host, number, host_at, is_up, is_there}
use Rattle.imp_node.specs.Contents as contents
use Rattle.imp_node.specs.Making.{reply_for, host_down_makes}
use Rattle.imp_node.specs.Moves.{sender_told, source_down, destination_down}
use Rattle.imp_node.proofs.lemmas.{at_set, freed_with, host_down_imp, returned_moves, returned_number, same_at, stopped_becomes}
use Rattle.subnet.specs.Flows.{Piece, Alive, packet_of, queued_of, imp_is_up, sender_at, receiver_at, view_of, view}
use Rattle.subnet.proofs.Packets.HavingByEvents.{stop_only}
use Rattle.subnet.proofs.Calls.Silence.{at_host_all}
use Rattle.subnet.proofs.Moves.Takes.{freed_messages}
use Rattle.subnet.proofs.Moves.Turns.{Answerable, set_here, set_queue, set_messages, answerable, source_changed}
use Rattle.subnet.proofs.Moves.Fates.{ended_all, kept_all, fate_all, view_fated}
use Rattle.subnet.proofs.Moves.Views.{view_parts}
use Rattle.subnet.proofs.Moves.Askable.{one_begins}
use Rattle.subnet.proofs.Moves.ManyFlows.{all_moved, at_end, at_end_if}
use Rattle.subnet.proofs.Calls.Outstanding.{down_same}

-- ---- messages are given back, one after another

returned_answers : (m : Message) (s : State) → All Answerable (contents.messages s) → All Answerable (contents.messages (message_returned m s))
returned_answers m s all = at (reply_has_room t m) _ where
  t : State
  t = fated m.flow m.number fate.Dead s

  at : (room here : Bool) → All Answerable (contents.messages (cond room (cond here (freed answer.Dead m.flow m.number t) (stored (answer_packet kind.Dead m.flow m.number) t)) t))
  at true true = freed_messages answer.Dead m.flow m.number t all
  at true false = all
  at false here = all

all_answers : (ms : List Message) (s : State) → All Answerable (contents.messages s) → All Answerable (contents.messages (all_returned ms s))
all_answers [] s all = all
all_answers (m ∷ ms) s all = all_answers ms (message_returned m s) (returned_answers m s all)

-- a flow's side where messages were returned: those of the flow are dead
abbrev with_dead : List Message → Receiver → Receiver
with_dead ms r = record r { kept = ended_all fate.Dead ms r.kept }

all_receiver : (ms : List Message) (s : State) (f : Flow) → receiver (all_returned ms s) f ≡ with_dead (messages_of f ms) (receiver s f)
all_receiver [] s f = refl
all_receiver (m ∷ ms) s f = elim (cases_Bool (same_flow f m.flow)) [
  | inl same ↦ (let F : Flow → Type 0 = λ k. receiver (message_returned m s) k ≡ fated_with m.number fate.Dead (receiver s k) in
      let dead : receiver (message_returned m s) f ≡ fated_with m.number fate.Dead (receiver s f) = subst F (sym (same_flow-true f m.flow same)) (returned_moves m s).receiver in
      let list : messages_of f (m ∷ ms) ≡ m ∷ messages_of f ms = rw same refl in
      all_receiver ms (message_returned m s) f ∙ ap (with_dead (messages_of f ms)) dead ∙ ap (λ (xs : List Message). with_dead xs (receiver s f)) (sym list))
  | inr other ↦ (let list : messages_of f (m ∷ ms) ≡ messages_of f ms = rw other refl in
      all_receiver ms (message_returned m s) f ∙ ap (with_dead (messages_of f ms)) ((returned_moves m s).others f other).receiver ∙ ap (λ (xs : List Message). with_dead xs (receiver s f)) (sym list))
]

-- where none is of the flow, its source hears nothing
none_of_it : (ms : List Message) (s : State) (f : Flow) → messages_of f ms ≡ [] → sender (all_returned ms s) f ≡ sender s f
none_of_it [] s f none = refl
none_of_it (m ∷ ms) s f none = elim (cases_Bool (same_flow f m.flow)) [
  | inl same ↦ (let some : m ∷ messages_of f ms ≡ [] = rw same at none in absurd (cc))
  | inr other ↦ (let rest : messages_of f ms ≡ [] = rw other at none in none_of_it ms (message_returned m s) f rest ∙ ((returned_moves m s).others f other).sender)
]

told_dead : (m : Message) (s : State) → is_from_here s m ≡ true → outstanding s m.flow ≡ Some m.number → sender (message_returned m s) m.flow ≡ ended_with answer.Dead (sender s m.flow)
told_dead m s here awaited =
    let r : Release = release_in m.number (finite.get s.sources m.flow) in
    (returned_moves m s).sender
    ∙ ap (λ (b : Bool). sender_told b r answer.Dead (sender s m.flow)) here
    ∙ ap (λ (x : Release). sender_told true x answer.Dead (sender s m.flow)) (freed_with _ _ awaited)

-- where one is, and is outstanding at a source of this IMP, that gets Dead
one_of_it : (ms : List Message) (s : State) (f : Flow) (m : Message) → messages_of f ms ≡ m ∷ [] → (f.source.imp == number s) ≡ true → outstanding s f ≡ Some m.number
    → sender (all_returned ms s) f ≡ ended_with answer.Dead (sender s f)
one_of_it [] s f m one here awaited = absurd (cc)
one_of_it (x ∷ ms) s f m one here awaited = elim (cases_Bool (same_flow f x.flow)) [
  | inl same ↦ (let both : x ∷ messages_of f ms ≡ m ∷ [] = rw same at one in
      let first : x ≡ m = cc in
      let rest : messages_of f ms ≡ [] = cc in
      let flow : f ≡ x.flow = same_flow-true f x.flow same in
      let F : Flow → Type 0 = λ k. (k.source.imp == number s) ≡ true → outstanding s k ≡ Some x.number → sender (message_returned x s) k ≡ ended_with answer.Dead (sender s k) in
      let told : sender (message_returned x s) f ≡ ended_with answer.Dead (sender s f) = subst F (sym flow) (told_dead x s) here (awaited ∙ ap (λ (y : Message). Some y.number) (sym first)) in
      none_of_it ms _ f rest ∙ told)
  | inr other ↦ (let rest : messages_of f ms ≡ m ∷ [] = rw other at one in
      let still : sender (message_returned x s) f ≡ sender s f = ((returned_moves x s).others f other).sender in
      one_of_it ms (message_returned x s) f m rest (ap (λ (k : ℕ). f.source.imp == k) (returned_number x s) ∙ here) (ap (λ (y : Sender). y.outstanding) still ∙ awaited)
      ∙ ap (ended_with answer.Dead) still)
]

-- ---- the messages of one flow

not_for : (h : Host) (f : Flow) (ms : List Message) → All (λ m. m.flow.destination ≡ h) ms → same_host f.destination h ≡ false → messages_of f ms ≡ []
not_for h f [] all other = refl
not_for h f (m ∷ ms) all other = by (same_flow f m.flow) refl (not_for h f ms (All-tail (λ (x : Message). x.flow.destination ≡ h) m ms all) other) where
  by : (b : Bool) → same_flow f m.flow ≡ b → messages_of f ms ≡ [] → cond b (m ∷ messages_of f ms) (messages_of f ms) ≡ []
  by true same rest =
      let home : m.flow.destination ≡ h = All-head (λ (x : Message). x.flow.destination ≡ h) m ms all in
      let ours : f.destination ≡ h = ap (λ (g : Flow). g.destination) (same_flow-true f m.flow same) ∙ home in
      let found : same_host f.destination h ≡ true = ap (λ (g : Host). same_host g h) ours ∙ same_host-refl h in
      let no : true ≡ false = sym found ∙ other in
      absurd (cc)
  by false same rest = rest

-- so those of a flow are its whole queue there, or none
all_of_it : (h : Host) (s : State) (f : Flow) → IsImp h.imp s → messages_of f (host_at s h.host).queue ≡ cond (f.destination.host == h.host) (receiver s f).queue []
all_of_it h s f imp = by (f.destination.host == h.host) refl where
  nothing : (b : Bool) → (b && false) ≡ false
  nothing true = refl
  nothing false = refl

  by : (b : Bool) → (f.destination.host == h.host) ≡ b → messages_of f (host_at s h.host).queue ≡ cond b (receiver s f).queue []
  by true same = ap (λ (k : ℕ). messages_of f (host_at s k).queue) (sym (eqb-true f.destination.host h.host same))
  by false other = not_for h f _ (imp.queues h.host) (ap (λ (b : Bool). f.destination.imp == h.imp && b) other ∙ nothing _)

-- a message of the flow is in its queue
abbrev IsQueued : Flow → List Message → Message → Type 0
IsQueued f ms m = same_flow f m.flow ≡ true → Contains (map queued_of (messages_of f ms)) (queued_of m)

all_queued : (f : Flow) (ms : List Message) → All (IsQueued f ms) ms
all_queued f [] = All-nil (IsQueued f [])
all_queued f (x ∷ ms) = by (same_flow f x.flow) refl (all_queued f ms) where
  by : (b : Bool) → same_flow f x.flow ≡ b → All (IsQueued f ms) ms → All (λ m. same_flow f m.flow ≡ true → Contains (map queued_of (cond b (x ∷ messages_of f ms) (messages_of f ms))) (queued_of m)) (x ∷ ms)
  by true same rest =
      let qs : List Queued = map queued_of (messages_of f ms) in
      let P : Message → Type 0 = λ m. same_flow f m.flow ≡ true → Contains (queued_of x ∷ qs) (queued_of m) in
      let first : Contains (queued_of x ∷ qs) (queued_of x) = All-head (Contains (queued_of x ∷ qs)) (queued_of x) qs (All-contains_itself (queued_of x ∷ qs)) in
      All-cons P x ms (λ e. first) (All-weaker (IsQueued f ms) P (λ m old e. Contains-append_right (queued_of x ∷ []) qs (queued_of m) (old e)) ms rest)
  by false same rest = All-cons (IsQueued f ms) x ms (λ e. (let no : true ≡ false = sym e ∙ same in absurd (cc))) rest

-- ---- the moves

-- the first of these, for a source at the same IMP
abbrev own_message : Bool → List Message → Option Message
own_message true (m ∷ ms) = Some m
own_message true [] = None
own_message false ms = None

abbrev waiting : State → Host → Flow → Option Message
waiting s h f = own_message (same_host f.destination h && f.source.imp == h.imp) (messages_of f (host_at s h.host).queue)

abbrev moves_by : Bool → Bool → Option Message → List Move
moves_by a b None = stopped_host a b
moves_by a b (Some m) = stopped_host_queued a (queued_of m)

abbrev moves : State → Host → Flow → List Move
moves s h f = moves_by (same_host f.source h) (same_host f.destination h) (waiting s h f)

none_waits : (b here : Bool) (ms : List Message) → own_message (b && here) ms ≡ None → b ≡ true → here ≡ true → ms ≡ []
none_waits true true [] none e g = refl
none_waits true true (m ∷ ms) none e g = absurd (cc)
none_waits true false ms none e g = absurd (cc)
none_waits false here ms none e g = absurd (cc)

-- a message waits for the host, and its source is at the same IMP
record IsOwn (c : Bool) (ms : List Message) (m : Message) : Type 0 where
  own : c ≡ true
  others : List Message
  list : ms ≡ m ∷ others

one_waits : (c : Bool) (ms : List Message) (m : Message) → own_message c ms ≡ Some m → IsOwn c ms m
one_waits true (x ∷ ms) m is = let same : x ≡ m = cc in record { own = refl; others = ms; list = ap (λ (y : Message). y ∷ ms) same }
one_waits true [] m is = absurd (cc)
one_waits false ms m is = absurd (cc)

shown : (f : Flow) (h : Host) (s : State) (v : View) (log : List Crossing) (o : Option Message) → waiting s h f ≡ o
    → passed_over f (crossing.Down h ∷ []) log ≡ shown_by (moves_by (same_host f.source h) (same_host f.destination h) o) v
shown f h s v log None is = down_shown f h log v
shown f h s v log (Some m) is =
    let own : IsOwn (same_host f.destination h && f.source.imp == h.imp) (messages_of f (host_at s h.host).queue) m = one_waits _ _ m is in
    let here : same_host f.destination h ≡ true × (f.source.imp == h.imp) ≡ true = and_true (same_host f.destination h) (f.source.imp == h.imp) own.own in
    down_shown f h log v ∙ ap (λ (b : Bool). shown_by (stopped_host (same_host f.source h) b) v) here.0

-- ---- what they change

-- a flow's side where its destination went down, with its messages returned
abbrev gone_down : Bool → Receiver → Receiver
gone_down b r = if b then record r { destination = false; kept = ended_all fate.Dead r.queue r.kept; queue = [] } else r

gone_is : (b : Bool) (r : Receiver) (ms : List Message) → ms ≡ cond b r.queue [] → with_dead ms (destination_down b r) ≡ gone_down b r
gone_is true r ms is = rw is refl
gone_is false r ms is = rw is refl

stopped_view : (u : Bool) (s : Sender) (w : Bool) (r : Receiver) (box : Box) → view_of u s w (gone_down true r) box ≡ view_moved Move.StopDestination (view_of u s w r box)
stopped_view u s w r box =
    let down : Receiver = record r { destination = false; queue = [] } in
    view_fated u s w down box _ _ (kept_all fate.Dead r.queue r.kept) (fate_all fate.Dead r.queue r.kept)

quiet_view : (a b u w : Bool) (s : Sender) (r : Receiver) (box : Box) → view_of u (source_down a s) w (gone_down b r) box ≡ after_all (stopped_host a b) (view_of u s w r box)
quiet_view true true u w s r box = stopped_view u (source_down true s) w r box
quiet_view true false u w s r box = refl
quiet_view false true u w s r box = stopped_view u s w r box
quiet_view false false u w s r box = refl

told_view : (a u w : Bool) (m : Queued) (s : Sender) (r : Receiver) (box : Box)
    → view_of u (ended_with answer.Dead (source_down a s)) w (gone_down true r) box ≡ after_all (stopped_host_queued a m) (view_of u s w r box)
told_view true u w m s r box = ap (view_moved (Move.Freed (local.answer_packet Kind.Dead m.number) answer.Dead)) (stopped_view u (source_down true s) w r box)
told_view false u w m s r box = ap (view_moved (Move.Freed (local.answer_packet Kind.Dead m.number) answer.Dead)) (stopped_view u s w r box)

record Stopping (n : Net) (h : Host) (s : State) : Type 0 where
  at : imp_at n.imps h.imp ≡ Some s
  up : is_up s h.host ≡ true
  imp : IsImp h.imp s

abbrev after_stop : Net → Host → State → Net
after_stop n h s = logging (crossing.Down h ∷ []) (with_turn h.imp (host_down s h.host) n)

-- its view, where its source becomes so
gone_view : (n : Net) (h : Host) (s : State) (f : Flow) (from : Sender) → Stopping n h s
    → sender_at (imp_at (slice_set n.imps h.imp (Some (host_down s h.host).state)) f.source.imp) f ≡ from
    → view (after_stop n h s) f ≡ view_of (imp_is_up (imp_at n.imps f.source.imp)) from (imp_is_up (imp_at n.imps f.destination.imp)) (gone_down (same_host f.destination h) (receiver_at (imp_at n.imps f.destination.imp) f)) (box_of f n.log)
gone_view n h s f from stop source =
    let t : State = (host_down s h.host).state in
    let imps : List (Option State) = slice_set n.imps h.imp (Some t) in
    let i : ℕ = f.source.imp in
    let j : ℕ = f.destination.imp in
    let c : Bool = f.destination.host == h.host in
    let q : List Message = (host_at s h.host).queue in
    let becomes : receiver t f ≡ gone_down c (receiver s f) =
    all_receiver q _ f ∙ ap (with_dead (messages_of f q)) (stopped_becomes s h.host f).receiver ∙ gone_is c _ _ (all_of_it h s f stop.imp) in
    view_parts
    _ _ _ from
    _ _ _ _
    _
    (same_at imp_is_up n.imps h.imp i (Some t) None (ap imp_is_up (sym stop.at)))
    source
    (same_at imp_is_up n.imps h.imp j (Some t) None (ap imp_is_up (sym stop.at)))
    (at_end (λ (o : Option State). receiver_at o f) gone_down n.imps h.imp j (Some t) c (λ r. refl) (set_here n.imps h.imp _ s stop.at)
    (becomes ∙ ap (λ (o : Option State). gone_down c (receiver_at o f)) (sym stop.at)))

-- where none of its messages waits at this IMP for a source there
quiet_source : (n : Net) (h : Host) (s : State) (f : Flow) → Stopping n h s → ((f.source.imp == h.imp) ≡ true → messages_of f (host_at s h.host).queue ≡ [])
    → sender_at (imp_at (slice_set n.imps h.imp (Some (host_down s h.host).state)) f.source.imp) f ≡ source_down (same_host f.source h) (sender_at (imp_at n.imps f.source.imp) f)
quiet_source n h s f stop none =
    let t : State = (host_down s h.host).state in
    let c : Bool = f.source.host == h.host in
    at_end_if (λ (o : Option State). sender_at o f) source_down n.imps h.imp _ (Some t) c (λ x. refl) (set_here n.imps h.imp _ s stop.at)
    (λ here. none_of_it (host_at s h.host).queue (stopped s h.host) f (none here) ∙ (stopped_becomes s h.host f).sender ∙ ap (λ (o : Option State). source_down c (sender_at o f)) (sym stop.at))

-- where one does
told_source : (n : Net) (h : Host) (s : State) (f : Flow) (m : Message) → Stopping n h s → (f.source.imp == h.imp) ≡ true → messages_of f (host_at s h.host).queue ≡ m ∷ [] → outstanding s f ≡ Some m.number
    → sender_at (imp_at (slice_set n.imps h.imp (Some (host_down s h.host).state)) f.source.imp) f ≡ ended_with answer.Dead (source_down (same_host f.source h) (sender_at (imp_at n.imps f.source.imp) f))
told_source n h s f m stop here one awaited =
    let t : State = (host_down s h.host).state in
    let a : Bool = same_host f.source h in
    let c : Bool = f.source.host == h.host in
    let same : c ≡ a = ap (λ (b : Bool). b && c) (sym here) in
    let mid : State = stopped s h.host in
    let down : sender mid f ≡ source_down c (sender s f) = (stopped_becomes s h.host f).sender in
    let told : sender (all_returned (host_at s h.host).queue mid) f ≡ ended_with answer.Dead (sender mid f) =
    one_of_it _ mid f m one (ap (λ (k : ℕ). f.source.imp == k) stop.imp.own ∙ here) (ap (λ (x : Sender). x.outstanding) down ∙ down_same c _ ∙ awaited) in
    source_changed (λ x. ended_with answer.Dead (source_down a x)) n.imps h.imp s t f stop.at (eqb-true f.source.imp h.imp here)
    (told ∙ ap (ended_with answer.Dead) down ∙ ap (λ (b : Bool). ended_with answer.Dead (source_down b (sender s f))) same)

-- ---- what they need

was_source : (n : Net) (h : Host) (s : State) (f : Flow) → Stopping n h s → same_host f.source h ≡ true → (view n f).source ≡ true
was_source n h s f stop here =
    let source : f.source ≡ h = same_host-true _ h here in
    ap (λ (x : Host). (sender_at (imp_at n.imps x.imp) f).source) source ∙ ap (λ (o : Option State). (sender_at o f).source) stop.at ∙ ap (λ (x : Host). is_up s x.host) source ∙ stop.up

was_destination : (n : Net) (h : Host) (s : State) (f : Flow) → Stopping n h s → same_host f.destination h ≡ true → (view n f).destination ≡ true
was_destination n h s f stop here =
    let destination : f.destination ≡ h = same_host-true _ h here in
    ap (λ (x : Host). (receiver_at (imp_at n.imps x.imp) f).destination) destination ∙ ap (λ (o : Option State). (receiver_at o f).destination) stop.at ∙ ap (λ (x : Host). is_up s x.host) destination ∙ stop.up

queue_is : (n : Net) (h : Host) (s : State) (f : Flow) → Stopping n h s → same_host f.destination h ≡ true → (view n f).queue ≡ map queued_of (messages_of f (host_at s h.host).queue)
queue_is n h s f stop here =
    let destination : f.destination ≡ h = same_host-true _ h here in
    ap (λ (x : Host). map queued_of (receiver_at (imp_at n.imps x.imp) f).queue) destination
    ∙ ap (λ (o : Option State). map queued_of (receiver_at o f).queue) stop.at
    ∙ ap (λ (x : Host). map queued_of (messages_of f (host_at s x.host).queue)) destination

no_others : (ms : List Message) → map queued_of ms ≡ [] → ms ≡ []
no_others [] none = refl
no_others (m ∷ ms) none = absurd (cc)

-- ---- the packets that it makes

record IsDeadFor (ms : List Message) (p : PacketFields) : Type 0 where
  message : Message
  waited : Contains ms message
  is : p ≡ answer_packet kind.Dead message.flow message.number

pub dead_all : (P : PacketFields → Type 0) (s : State) (ms : List Message) → All (λ m. P (answer_packet kind.Dead m.flow m.number)) ms → All P (flat_map (reply_for kind.Dead s) ms)
dead_all P s [] all = All-nil P
dead_all P s (m ∷ ms) all =
    All-append P (reply_for kind.Dead s m) (flat_map (reply_for kind.Dead s) ms)
    (by (is_from_here s m) (All-head (λ (x : Message). P (answer_packet kind.Dead x.flow x.number)) m ms all))
    (dead_all P s ms (All-tail (λ (x : Message). P (answer_packet kind.Dead x.flow x.number)) m ms all))
  where
    by : (here : Bool) → P (answer_packet kind.Dead m.flow m.number) → All P (cond here [] (answer_packet kind.Dead m.flow m.number ∷ []))
    by true dead = All-nil P
    by false dead = All-cons P (answer_packet kind.Dead m.flow m.number) [] dead (All-nil P)

dead_format : (m : Message) → Answerable m → IsPacket (answer_packet kind.Dead m.flow m.number)
dead_format m is = record { source = is.source; destination = is.destination; link = is.link; number = is.number; place = is.place; body = is.body }

dead_for_it : (n : Net) (h : Host) (s : State) (f : Flow) (x : Packet) (p : PacketFields) → Stopping n h s → flow_of p ≡ f → packet_of p ≡ x → IsDeadFor (host_at s h.host).queue p
    → (same_host f.destination h ≡ true) × IsDeadOf (view n f).queue x
dead_for_it n h s f x p stop flow packet dead =
    let q : List Message = (host_at s h.host).queue in
    let m : Message = dead.message in
    let ours : m.flow ≡ f = sym (ap flow_of dead.is) ∙ flow in
    let home : m.flow.destination ≡ h = All-contains (λ (y : Message). y.flow.destination ≡ h) q m (stop.imp.queues h.host) dead.waited in
    let here : same_host f.destination h ≡ true = ap (λ (g : Flow). same_host g.destination h) (sym ours) ∙ ap (λ (k : Host). same_host k h) home ∙ same_host-refl h in
    let same : same_flow f m.flow ≡ true = ap (same_flow f) ours ∙ same_flow-refl f in
    let queued : Contains (map queued_of (messages_of f q)) (queued_of m) = All-contains (IsQueued f q) q m (all_queued f q) dead.waited same in (
      here,
      record {
        kind = ap (λ (y : Packet). y.kind) (sym packet) ∙ ap (λ (y : PacketFields). (packet_of y).kind) dead.is;
        message = queued_of m;
        waited = subst (λ (qs : List Queued). Contains qs (queued_of m)) (sym (queue_is n h s f stop here)) queued;
        number = ap (λ (y : Packet). y.number) (sym packet) ∙ ap (λ (y : PacketFields). y.number) dead.is;
      },
    )

dead_or_old : (n : Net) (h : Host) (s : State) (f : Flow) (x : Packet) → Stopping n h s → OnlyNew n (host_down_makes s h.host) (after_stop n h s) → Alive (after_stop n h s) f x
    → Alive n f x ⊎ ((same_host f.destination h ≡ true) × IsDeadOf (view n f).queue x)
dead_or_old n h s f x stop only a =
    let q : List Message = (host_at s h.host).queue in
    let m : Net = after_stop n h s in
    let made : List PacketFields = host_down_makes s h.host in
    let itself : All (IsDeadFor q) made = dead_all (IsDeadFor q) s q (All-weaker (Contains q) (λ (y : Message). IsDeadFor q (answer_packet kind.Dead y.flow y.number)) (λ y there. record { message = y; waited = there; is = refl }) q (All-contains_itself q)) in
    elim (Contains-append_cases (packets n) made a.fields (All-contains (Contains (packets n ++ made)) (packets m) a.fields only a.there)) [
      | inl there ↦ inl (record { fields = a.fields; there = there; flow = a.flow; packet = a.packet })
      | inr there ↦ inr (dead_for_it n h s f x _ stop a.flow a.packet (All-contains (IsDeadFor q) made a.fields itself there))
    ]

-- ---- each flow

beside : {A B : Type 0} → A ⊎ B → (A ⊎ ⊥) ⊎ B
beside (inl a) = inl (inl a)
beside (inr b) = inr b

quiet_follows : (a b : Bool) (old new : View) (before later : Packet → Type 0) → (a ≡ true → old.source ≡ true) → (b ≡ true → old.destination ≡ true) → new ≡ after_all (stopped_host a b) old
    → ((x : Packet) → later x → before x ⊎ ((b ≡ true) × IsDeadOf old.queue x)) → Follows Piece (stopped_host a b) old new before later
quiet_follows true true old new before later source destination same less = record { needs = (destination refl, (source refl, tt)); view = same; packets = λ x l. by x (less x l) } where
  by : (x : Packet) → before x ⊎ ((let t : Bool = true in t ≡ true) × IsDeadOf old.queue x) → (before x ⊎ ⊥) ⊎ IsDeadOf old.queue x
  by x (inl alive) = inl (inl alive)
  by x (inr dead) = inr dead.1
quiet_follows true false old new before later source destination same less = record { needs = (source refl, tt); view = same; packets = λ x l. by x (less x l) } where
  by : (x : Packet) → before x ⊎ ((false ≡ true) × IsDeadOf old.queue x) → before x ⊎ ⊥
  by x (inl alive) = inl alive
  by x (inr dead) = let no : false ≡ true = dead.0 in absurd (cc)
quiet_follows false true old new before later source destination same less = record { needs = (destination refl, tt); view = same; packets = λ x l. by x (less x l) } where
  by : (x : Packet) → before x ⊎ ((let t : Bool = true in t ≡ true) × IsDeadOf old.queue x) → before x ⊎ IsDeadOf old.queue x
  by x (inl alive) = inl alive
  by x (inr dead) = inr dead.1
quiet_follows false false old new before later source destination same less = record { needs = tt; view = same; packets = λ x l. by x (less x l) } where
  by : (x : Packet) → before x ⊎ ((false ≡ true) × IsDeadOf old.queue x) → before x
  by x (inl alive) = alive
  by x (inr dead) = let no : false ≡ true = dead.0 in absurd (cc)

told_follows : (a : Bool) (m : Queued) (old new : View) (before later : Packet → Type 0) → (a ≡ true → old.source ≡ true) → old.destination ≡ true → Contains old.queue m → old.outstanding ≡ Some m.number
    → new ≡ after_all (stopped_host_queued a m) old → ((x : Packet) → later x → before x ⊎ IsDeadOf old.queue x) → Follows Piece (stopped_host_queued a m) old new before later
told_follows true m old new before later source destination there awaited same less = record {
  needs = (record { there = inr (record { kind = refl; message = m; waited = there; number = refl }); brings = tt; awaited = awaited }, (destination, (source refl, tt)));
  view = same;
  packets = λ x l. inl (beside (less x l));
}
told_follows false m old new before later source destination there awaited same less = record {
  needs = (record { there = inr (record { kind = refl; message = m; waited = there; number = refl }); brings = tt; awaited = awaited }, (destination, tt));
  view = same;
  packets = λ x l. inl (less x l);
}

-- what a flow has a message for, in a sound subnet: it is outstanding, and it is the only one
flow_goes : (n : Net) (h : Host) (s : State) (f : Flow) → Stopping n h s → OnlyNew n (host_down_makes s h.host) (after_stop n h s) → Invariant Piece (view n f) (Alive n f) → (o : Option Message) → waiting s h f ≡ o
    → Follows Piece (moves_by (same_host f.source h) (same_host f.destination h) o) (view n f) (view (after_stop n h s) f) (Alive n f) (Alive (after_stop n h s) f)
flow_goes n h s f stop only law None is =
    let a : Bool = same_host f.source h in
    let b : Bool = same_host f.destination h in
    let q : List Message = (host_at s h.host).queue in
    let none : (f.source.imp == h.imp) ≡ true → messages_of f q ≡ [] = λ here. elim (cases_Bool (same_host f.destination h)) [
      | inl ours ↦ none_waits (same_host f.destination h) (f.source.imp == h.imp) (messages_of f (host_at s h.host).queue) is ours here
      | inr other ↦ not_for h f _ (stop.imp.queues h.host) other
    ] in
    let from : Sender = source_down a (sender_at (imp_at n.imps f.source.imp) f) in
    quiet_follows a b _ _ _ _ (was_source n h s f stop) (was_destination n h s f stop)
    (gone_view n h s f from stop (quiet_source n h s f stop none) ∙ quiet_view a b _ _ _ _ _)
    (λ x. dead_or_old n h s f x stop only)
flow_goes n h s f stop only law (Some m) is =
    let a : Bool = same_host f.source h in
    let q : List Message = (host_at s h.host).queue in
    let own : IsOwn (same_host f.destination h && f.source.imp == h.imp) (messages_of f q) m = one_waits _ _ m is in
    let both : same_host f.destination h ≡ true × (f.source.imp == h.imp) ≡ true = and_true (same_host f.destination h) (f.source.imp == h.imp) own.own in
    let queue : (view n f).queue ≡ queued_of m ∷ map queued_of own.others = queue_is n h s f stop both.0 ∙ ap (map queued_of) own.list in
    let alone : own.others ≡ [] = no_others _ (queued_alone _ _ _ _ law queue) in
    let one : messages_of f q ≡ m ∷ [] = own.list ∙ ap (λ (ms : List Message). m ∷ ms) alone in
    let at : imp_at n.imps f.source.imp ≡ Some s = ap (imp_at n.imps) (eqb-true f.source.imp h.imp both.1) ∙ stop.at in
    let awaited : (view n f).outstanding ≡ Some m.number = queued_awaited _ _ _ _ law (ap imp_is_up at) queue in
    let here : outstanding s f ≡ Some m.number = sym (ap (λ (o : Option State). (sender_at o f).outstanding) at) ∙ awaited in
    let from : Sender = ended_with answer.Dead (source_down a (sender_at (imp_at n.imps f.source.imp) f)) in
    let qs : List Queued = queued_of m ∷ map queued_of own.others in
    let first : Contains qs (queued_of m) = All-head (Contains qs) (queued_of m) (map queued_of own.others) (All-contains_itself qs) in
    told_follows a _ _ _ _ _ (was_source n h s f stop) (was_destination n h s f stop both.0)
    (subst (λ (ms : List Queued). Contains ms (queued_of m)) (sym queue) first) awaited
    (gone_view n h s f from stop (told_source n h s f m stop both.1 one here)
    ∙ ap (λ (b : Bool). view_of (imp_is_up (imp_at n.imps f.source.imp)) from (imp_is_up (imp_at n.imps f.destination.imp)) (gone_down b (receiver_at (imp_at n.imps f.destination.imp) f)) (box_of f n.log)) both.0
    ∙ told_view a _ _ (queued_of m) _ _ _)
    (λ x l. dead x (dead_or_old n h s f x stop only l))
  where
    dead : (x : Packet) → Alive n f x ⊎ ((same_host f.destination h ≡ true) × IsDeadOf (view n f).queue x) → Alive n f x ⊎ IsDeadOf (view n f).queue x
    dead x (inl alive) = inl alive
    dead x (inr made) = inr made.1

none_begins : (a b : Bool) (o : Option Message) → one_begins (moves_by a b o) ≡ false
none_begins true true None = refl
none_begins true false None = refl
none_begins false true None = refl
none_begins false false None = refl
none_begins true b (Some m) = refl
none_begins false b (Some m) = refl

-- ---- the event

gone : (n : Net) (h : Host) (s : State) → Stopping n h s → IsSound n → IsSound (after_stop n h s)
gone n h s stop is =
    let turn : ImpTurn = host_down s h.host in
    let m : Net = after_stop n h s in
    let q : List Message = (host_at s h.host).queue in
    let made : List PacketFields = host_down_makes s h.host in
    let only : OnlyNew n made m = subst (λ (o : Option State). OnlyNew n (made_at o (λ t. host_down_makes t h.host)) (logging (crossing.Down h ∷ []) (at_imp o h.imp (λ (t : State). host_down t h.host) n))) stop.at (stop_only n h) in
    let held : All Answerable (contents.messages s) = answerable n h.imp s stop.at is in
    let dead : All IsPacket made = dead_all IsPacket s q (All-weaker Answerable (λ (x : Message). IsPacket (answer_packet kind.Dead x.flow x.number)) dead_format q (at_host_all Answerable _ h.host held)) in
    let all : All IsPacket (packets n ++ made) = All-append IsPacket (packets n) made is.formats dead in
    let follow : AllFollow Piece n.hosts (crossing.Down h ∷ []) n.log (moves s h) (view n) (view m) (Alive n) (Alive m) = record {
      follows = λ f. flow_goes n h s f stop only (is.flows.flows f).clauses (waiting s h f) refl;
      shown = λ f. shown f h s (view n f) n.log (waiting s h f) refl;
      ups = tt;
    } in
    all_moved n m.imps m.lines (crossing.Down h ∷ []) (moves s h) follow
    (λ k. at_set IsAt n.imps h.imp k (Some turn.state) None (is.imps k) (host_down_imp h.imp s h.host stop.imp))
    (All-weaker (Contains (packets n ++ made)) IsPacket (λ p there. All-contains IsPacket (packets n ++ made) p all there) (packets m) only)
    (set_messages Answerable n.imps h.imp _ is.answers (all_answers q _ (set_queue Answerable _ h.host no_host held (All-nil Answerable))))
    (λ f. none_begins (same_host f.source h) (same_host f.destination h) (waiting s h f))
    is

pub host_down_sound : (n : Net) (h : Host) → at_host_refusal n h host_down_refusal ≡ None → IsSound n → IsSound (host_stopped n h)
host_down_sound n h allowed is =
    let last : Option CarrierFault = at_up (imp_at n.imps h.imp) (λ s. host_down_refusal s h.host) in
    let known : (not (is_host n.hosts h) ≡ false) × (last ≡ None) = guard _ _ last allowed in
    by (imp_at n.imps h.imp) refl known.1
  where
    by : (o : Option State) → imp_at n.imps h.imp ≡ o → at_up o (λ s. host_down_refusal s h.host) ≡ None → IsSound (logging (crossing.Down h ∷ []) (at_imp o h.imp (λ s. host_down s h.host) n))
    by None at own = absurd (cc)
    by (Some s) at own =
        let second : Option CarrierFault = if not (is_up s h.host) then Some fault.IsDown else None in
        let there : (not (is_there s h.host) ≡ false) × (second ≡ None) = guard _ _ second own in
        let up : (not (is_up s h.host) ≡ false) × (let rest : Option CarrierFault = None in rest ≡ None) = guard _ _ None there.1 in
        gone n h s (record { at = at; up = not_false _ up.0; imp = subst (IsAt h.imp) at (is.imps h.imp) }) is
