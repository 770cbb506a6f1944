-- A host takes what waits for it.
use Rattle.subnet.proofs.Common.{All-nil, All-cons, All-head, All-tail, same_flow, Host, is_host, Flow, CarrierFault, Answer, Crossing, HostMessage, guard, not_false, same_flow-refl, release_in, Release, PacketFields, IsPacket, flow_of, Packet, Queued, Kind, Follows, Message, answer_packet, given, answered_by, freed, stored, Sender, Receiver, sender, receiver, fated_with, answers_of, messages_of, ended_with, IsImp, Moved, Net, imp_at, with_turn, packets, NothingNew, OnlyNew, IsAt, IsSound}
use Rattle.std.proofs.Common.{◌≡◌, ℕ, Bool, true, false, not, List, [], ◌∷◌, ◌++◌, map, Option, Some, None, refl, ap, sym, ◌∙◌, subst, ◌⊎◌, inl, inr, eqb-true, cond, All, Contains}
use Rattle.std.specs.FinMap as finite
use Rattle.interface.specs.Mailboxes.{Box, box_of, fetched}
use Rattle.interface.specs.declared.carrier.CarrierFault.TheVariants as fault
use Rattle.interface.specs.declared.crossing.Answer.TheVariants as answer
use Rattle.interface.specs.declared.crossing.Crossing.TheVariants as crossing
use Rattle.link_table.specs.declared.destination.Fate.TheVariants as fate
use Rattle.link_table.specs.declared.source.Release.TheVariants as release
use Rattle.packetiser.specs.declared.packet.PacketKind.TheVariants as kind
use Rattle.flow_law.specs.Moves.{Move, TakeMessage, TakeAnswer, CanTakeMessage, IsTold}
use Rattle.flow_law.specs.Local.{taken_here, view_taken_here}
use Rattle.flow_law.proofs.lemmas.{answer_here, in_here, makes_one, queued_awaited, take_here}
use Rattle.imp_node.specs.declared.waiting.Told.{Told}
use Rattle.imp_node.specs.State.{State, number, host_at, is_there, is_up}
use Rattle.imp_node.specs.Contents as contents
use Rattle.imp_node.specs.Making.{rfnm_for}
use Rattle.imp_node.specs.Moves.{without_first, sender_told}
use Rattle.imp_node.specs.Taking.{first_of, is_from_here, replied, taking_has_room, taken_by, to_host, to_host_refusal}
use Rattle.imp_node.proofs.lemmas.{answer_taken, freed_with, message_taken, nothing_taken, to_host_has, to_host_imp}
use Rattle.subnet.specs.Events as events
use Rattle.subnet.specs.Events.{at_imp, at_up, logging, given_at, crossings_of, take_refusal, take_in}
use Rattle.subnet.specs.Flows.{Piece, Alive, packet_of, queued_of, imp_is_up, sender_at, receiver_at, view}
use Rattle.subnet.proofs.Calls.Silence.{at_host_all}
use Rattle.subnet.proofs.Moves.Fates.{taken_view}
use Rattle.subnet.proofs.Moves.Turns.{Answerable, turn_only, turn_nothing, alive_or_made, set_queue, answerable, source_changed, source_same, destination_changed, destination_same, moved_view, in_crosses, answer_crosses, followed_turn, silent_turn}

-- ---- what waits after it

answered_messages : (r : Release) (k : Answer) (f : Flow) (number : ℕ) (s : State) → All Answerable (contents.messages s) → All Answerable (contents.messages (answered_by r k f number s))
answered_messages release.Freed k f number s all =
    set_queue Answerable s.hosts f.source.host (given (host_at s f.source.host) (record { kind = k; flow = f })) all (at_host_all Answerable s.hosts f.source.host all)
answered_messages release.Stale k f number s all = all

pub freed_messages : (k : Answer) (f : Flow) (number : ℕ) (s : State) → All Answerable (contents.messages s) → All Answerable (contents.messages (freed k f number s))
freed_messages k f number s all = answered_messages _ k f number s all

replied_messages : (m : Message) (s : State) → All Answerable (contents.messages s) → All Answerable (contents.messages (replied answer.Rfnm kind.Rfnm m s))
replied_messages m s all = at _ where
  at : (here : Bool) → All Answerable (contents.messages (cond here (freed answer.Rfnm m.flow m.number s) (stored (answer_packet kind.Rfnm m.flow m.number) s)))
  at true = freed_messages answer.Rfnm m.flow _ s all
  at false = all

taken_messages : (h : ℕ) (ts : List Told) (ms : List Message) (s : State) → (host_at s h).queue ≡ ms → All Answerable (contents.messages s) → All Answerable (contents.messages (taken_by h ts ms s))
taken_messages h (t ∷ others) ms s is all = set_queue Answerable _ h _ all (at_host_all Answerable _ h all)
taken_messages h [] (m ∷ others) s is all =
    let waiting : All Answerable (m ∷ others) = subst (All Answerable) is (at_host_all Answerable _ h all) in
    replied_messages m _ (set_queue Answerable _ h _ all (All-tail Answerable m others waiting))
taken_messages h [] [] s is all = all

-- ---- a call that is not refused, where these answers and messages wait

record IsTake (n : Net) (i : ℕ) (s : State) (k : ℕ) (ts : List Told) (ms : List Message) : Type 0 where
  pub at : imp_at n.imps i ≡ Some s
  pub up : is_up s k ≡ true
  pub imp : IsImp i s
  pub answers : (host_at s k).answers ≡ ts
  pub queue : (host_at s k).queue ≡ ms

take_only : (n : Net) (i : ℕ) (s : State) (k : ℕ) (ts : List Told) (ms : List Message) → IsTake n i s k ts ms → OnlyNew n (rfnm_for s ts ms) (with_turn i (to_host s k) n)
take_only n i s k ts ms t =
    let P : PacketFields → Type 0 = Contains (packets n ++ rfnm_for s ts ms) in
    turn_only n i s _ _ t.at
    (λ has made. to_host_has P s k has
    (subst (λ (xs : List Told). All P (rfnm_for s xs (host_at s k).queue)) (sym t.answers) (subst (λ (xs : List Message). All P (rfnm_for s ts xs)) (sym t.queue) made)))

take_messages : (n : Net) (i : ℕ) (s : State) (k : ℕ) (ts : List Told) (ms : List Message) → IsTake n i s k ts ms → IsSound n → All Answerable (contents.messages (to_host s k).state)
take_messages n i s k ts ms t is = taken_messages k _ _ s refl (answerable n i s t.at is)

-- ---- an answer is taken

first_answer : (f : Flow) (t : Told) (others : List Told) → same_flow f t.flow ≡ true → answers_of f (t ∷ others) ≡ t.kind ∷ answers_of f others
first_answer f t others same = rw same refl

box_told : (k : Answer) (g : Flow) (log : List Crossing) → box_of g (crossing.Answer k g ∷ log) ≡ Box.Empty
box_told k g log = rw (same_flow-refl g) refl

take_answer : (n : Net) (i : ℕ) (s : State) (k : ℕ) (t : Told) (others : List Told) (ms : List Message) → IsTake n i s k (t ∷ others) ms → IsSound n
    → IsSound (logging (crossing.Answer t.kind t.flow ∷ []) (with_turn i (to_host s k) n))
take_answer n i s k t others ms take is =
    let g : Flow = t.flow in
    let entries : List Crossing = crossing.Answer t.kind g ∷ [] in
    let next : Net = logging entries (with_turn i (to_host s k) n) in
    let rest : List Answer = answers_of g others in
    let move : Move = TakeAnswer t.kind rest in
    let Home : Told → Type 0 = λ x. x.flow.source ≡ record { imp = i; host = k } in
    let home : g.source ≡ record { imp = i; host = k } = All-head Home t others (subst (All Home) take.answers (take.imp.answers k)) in
    let here : g.source.imp ≡ i = ap (λ (h : Host). h.imp) home in
    let host : g.source.host ≡ k = ap (λ (h : Host). h.host) home in
    let at : imp_at n.imps g.source.imp ≡ Some s = ap (imp_at n.imps) here ∙ take.at in
    let moved : Moved s (to_host s k).state g (record (sender s g) { answers = rest }) (receiver s g) = answer_taken s k t others take.up take.answers host in
    let waits : (view n g).answers ≡ t.kind ∷ rest =
    ap (λ (o : Option State). (sender_at o g).answers) at
    ∙ ap (λ (h : ℕ). answers_of g (host_at s h).answers) host
    ∙ ap (answers_of g) take.answers
    ∙ first_answer g t others (same_flow-refl g) in
    let change : Sender → Sender = λ f. record f { answers = rest } in
    let only : OnlyNew n [] (with_turn i (to_host s k) n) = take_only n i s k (t ∷ others) ms take in
    followed_turn n i s (to_host s k) entries g _ [] (record {
      at = take.at;
      sound = to_host_imp i s k take.imp;
      others = moved.others;
      crossings = answer_crosses _ t.kind g n.log;
      only = only;
      of_flow = All-nil (λ (p : PacketFields). flow_of p ≡ g);
      formats = All-nil IsPacket;
      answers = take_messages n i s k _ ms take is;
      here =
          makes_one move _ _ _ _ waits
          (moved_view n i s (to_host s k) entries g _ _ Box.Empty take.at
          (source_changed change n.imps i s _ g take.at here moved.sender)
          (destination_same n.imps i s _ g take.at moved.receiver)
          (box_told t.kind g n.log))
          (λ x. alive_or_made n next [] (λ (y : Packet). ⊥) g x only (All-nil (λ (p : PacketFields). ⊥)));
      shown = answer_here t.kind g n.log;
      begun = inl refl;
    }) is

-- ---- a message is taken

first_message : (f : Flow) (m : Message) (others : List Message) → same_flow f m.flow ≡ true → messages_of f (m ∷ others) ≡ m ∷ messages_of f others
first_message f m others same = rw same refl

abbrev host_message : Message → HostMessage
host_message m = record { flow = m.flow; text = m.text }

box_fetched : (m : Message) (log : List Crossing) → box_of m.flow (crossing.In (host_message m) ∷ log) ≡ fetched (box_of m.flow log)
box_fetched m log = rw (same_flow-refl m.flow) refl

-- what is so of its flow
record IsFirst (n : Net) (i : ℕ) (s : State) (k : ℕ) (m : Message) (others : List Message) : Type 0 where
  pub here : m.flow.destination.imp ≡ i
  pub host : m.flow.destination.host ≡ k
  pub can : CanTakeMessage (view n m.flow) (queued_of m) (map queued_of (messages_of m.flow others))

is_first : (n : Net) (i : ℕ) (s : State) (k : ℕ) (m : Message) (others : List Message) → IsTake n i s k [] (m ∷ others) → IsFirst n i s k m others
is_first n i s k m others take =
    let g : Flow = m.flow in
    let Home : Message → Type 0 = λ x. x.flow.destination ≡ record { imp = i; host = k } in
    let home : g.destination ≡ record { imp = i; host = k } = All-head Home m others (subst (All Home) take.queue (take.imp.queues k)) in
    let here : g.destination.imp ≡ i = ap (λ (h : Host). h.imp) home in
    let host : g.destination.host ≡ k = ap (λ (h : Host). h.host) home in
    let at : imp_at n.imps g.destination.imp ≡ Some s = ap (imp_at n.imps) here ∙ take.at in
    record {
      here = here;
      host = host;
      can = record {
        destination = ap (λ (o : Option State). (receiver_at o g).destination) at ∙ ap (λ (h : ℕ). is_up s h) host ∙ take.up;
        waits =
            ap (λ (o : Option State). map queued_of (receiver_at o g).queue) at
            ∙ ap (λ (h : ℕ). map queued_of (messages_of g (host_at s h).queue)) host
            ∙ ap (λ (ms : List Message). map queued_of (messages_of g ms)) take.queue
            ∙ ap (map queued_of) (first_message g m others (same_flow-refl g));
      };
    }

-- its source is at another IMP: an RFNM is made
take_from_far : (n : Net) (i : ℕ) (s : State) (k : ℕ) (m : Message) (others : List Message) → IsTake n i s k [] (m ∷ others) → is_from_here s m ≡ false → IsSound n
    → IsSound (logging (crossing.In (host_message m) ∷ []) (with_turn i (to_host s k) n))
take_from_far n i s k m others take far is =
    let g : Flow = m.flow in
    let entries : List Crossing = crossing.In (host_message m) ∷ [] in
    let next : Net = logging entries (with_turn i (to_host s k) n) in
    let rest : List Queued = map queued_of (messages_of g others) in
    let move : Move = TakeMessage (queued_of m) rest in
    let first : IsFirst n i s k m others = is_first n i s k m others take in
    let release : Release = release_in m.number (finite.get s.sources g) in
    let moved : Moved s (to_host s k).state g (sender_told (is_from_here s m) release answer.Rfnm (sender s g)) (without_first others g (fated_with m.number fate.Taken (receiver s g))) = message_taken s k m others take.up take.answers take.queue first.host in
    let still : sender (to_host s k).state g ≡ sender s g = moved.sender ∙ ap (λ (b : Bool). sender_told b release answer.Rfnm (sender s g)) far in
    let rfnm : PacketFields = answer_packet kind.Rfnm g m.number in
    let only : OnlyNew n (rfnm ∷ []) (with_turn i (to_host s k) n) =
    subst (λ (b : Bool). OnlyNew n (cond b [] (rfnm ∷ [])) (with_turn i (to_host s k) n)) far (take_only n i s k [] _ take) in
    let format : IsPacket rfnm = All-head Answerable m others (subst (All Answerable) take.queue (at_host_all Answerable _ k (answerable n i s take.at is))) in
    let Told : Packet → Type 0 = IsTold Kind.Rfnm m.number in
    followed_turn n i s (to_host s k) entries g _ _ (record {
      at = take.at;
      sound = to_host_imp i s k take.imp;
      others = moved.others;
      crossings = in_crosses _ _ n.log;
      only = only;
      of_flow = All-cons (λ (p : PacketFields). flow_of p ≡ g) rfnm [] refl (All-nil (λ (p : PacketFields). flow_of p ≡ g));
      formats = All-cons IsPacket rfnm [] format (All-nil IsPacket);
      answers = take_messages n i s k [] _ take is;
      here =
          makes_one move _ _ _ _ first.can
          (moved_view n i s (to_host s k) entries g _ _ _ take.at
          (source_same n.imps i s _ g take.at still)
          (destination_changed (λ (r : Receiver). without_first others g (fated_with m.number fate.Taken r)) n.imps i s _ g take.at first.here moved.receiver)
          (box_fetched m n.log)
          ∙ taken_view _ _ _ (receiver_at (imp_at n.imps g.destination.imp) g) _ _ g others)
          (λ x. alive_or_made n next (rfnm ∷ []) Told g x only (All-cons (λ (p : PacketFields). Told (packet_of p)) rfnm [] (record { kind = refl; number = refl }) (All-nil (λ (p : PacketFields). Told (packet_of p)))));
      shown = in_here (host_message m) n.log;
      begun = inl refl;
    }) is

-- its source is at this IMP, and is notified at once
take_from_here : (n : Net) (i : ℕ) (s : State) (k : ℕ) (m : Message) (others : List Message) → IsTake n i s k [] (m ∷ others) → is_from_here s m ≡ true → IsSound n
    → IsSound (logging (crossing.In (host_message m) ∷ []) (with_turn i (to_host s k) n))
take_from_here n i s k m others take near is =
    let g : Flow = m.flow in
    let entries : List Crossing = crossing.In (host_message m) ∷ [] in
    let next : Net = logging entries (with_turn i (to_host s k) n) in
    let rest : List Queued = map queued_of (messages_of g others) in
    let first : IsFirst n i s k m others = is_first n i s k m others take in
    let home : g.source.imp ≡ i = eqb-true g.source.imp (number s) near ∙ take.imp.own in
    let at : imp_at n.imps g.source.imp ≡ Some s = ap (imp_at n.imps) home ∙ take.at in
    let awaited : (view n g).outstanding ≡ Some m.number = queued_awaited _ _ _ rest (is.flows.flows g).clauses (ap imp_is_up at) first.can.waits in
    let frees : release_in m.number (finite.get s.sources g) ≡ release.Freed = freed_with _ _ (sym (ap (λ (o : Option State). (sender_at o g).outstanding) at) ∙ awaited) in
    let moved : Moved s (to_host s k).state g (sender_told (is_from_here s m) (release_in m.number (finite.get s.sources g)) answer.Rfnm (sender s g)) (without_first others g (fated_with m.number fate.Taken (receiver s g))) =
    message_taken s k m others take.up take.answers take.queue first.host in
    let ends : sender (to_host s k).state g ≡ ended_with answer.Rfnm (sender s g) =
    moved.sender
    ∙ ap (λ (b : Bool). sender_told b (release_in m.number (finite.get s.sources g)) answer.Rfnm (sender s g)) near
    ∙ ap (λ (r : Release). sender_told true r answer.Rfnm (sender s g)) frees in
    let only : OnlyNew n [] (with_turn i (to_host s k) n) =
    subst (λ (b : Bool). OnlyNew n (cond b [] (answer_packet kind.Rfnm g m.number ∷ [])) (with_turn i (to_host s k) n)) near (take_only n i s k [] _ take) in
    let old : Follows Piece (taken_here (queued_of m) rest) (view n g) (view_taken_here (queued_of m) rest (view n g)) (Alive n g) (Alive n g) = take_here _ _ _ rest first.can awaited in
    followed_turn n i s (to_host s k) entries g (taken_here _ rest) [] (record {
      at = take.at;
      sound = to_host_imp i s k take.imp;
      others = moved.others;
      crossings = in_crosses _ _ n.log;
      only = only;
      of_flow = All-nil (λ (p : PacketFields). flow_of p ≡ g);
      formats = All-nil IsPacket;
      answers = take_messages n i s k [] _ take is;
      here = record {
        needs = old.needs;
        view =
            moved_view n i s (to_host s k) entries g _ _ _ take.at
            (source_changed (ended_with answer.Rfnm) n.imps i s _ g take.at home ends)
            (destination_changed (λ (r : Receiver). without_first others g (fated_with m.number fate.Taken r)) n.imps i s _ g take.at first.here moved.receiver)
            (box_fetched m n.log)
            ∙ taken_view _ _ _ (receiver_at (imp_at n.imps g.destination.imp) g) _ _ g others
            ∙ old.view;
        packets = λ x a. old.packets x (only_old _ (alive_or_made n next [] (λ (y : Packet). ⊥) g x only (All-nil (λ (p : PacketFields). ⊥)) a));
      };
      shown = in_here (host_message m) n.log;
      begun = inl refl;
    }) is
  where
    only_old : (A : Type 0) → A ⊎ ⊥ → A
    only_old A (inl a) = a
    only_old A (inr none) = absurd none

-- ---- the event

take_by : (n : Net) (i : ℕ) (s : State) (k : ℕ) (ts : List Told) (ms : List Message) → IsTake n i s k ts ms → IsSound n → IsSound (logging (crossings_of (first_of ts ms)) (with_turn i (to_host s k) n))
take_by n i s k (t ∷ others) ms take is = take_answer n i s k t others ms take is
take_by n i s k [] (m ∷ others) take is = by (is_from_here s m) refl where
  by : (here : Bool) → is_from_here s m ≡ here → IsSound (logging (crossing.In (host_message m) ∷ []) (with_turn i (to_host s k) n))
  by true here = take_from_here n i s k m others take here is
  by false here = take_from_far n i s k m others take here is
take_by n i s k [] [] take is =
    let P : PacketFields → Type 0 = Contains (packets n) in
    let none : NothingNew n (with_turn i (to_host s k) n) =
    turn_nothing n i s _ take.at
    (λ has. to_host_has P s k has
    (subst (λ (xs : List Told). All P (rfnm_for s xs (host_at s k).queue)) (sym take.answers) (subst (λ (xs : List Message). All P (rfnm_for s [] xs)) (sym take.queue) (All-nil P)))) in
    silent_turn n i s (to_host s k) take.at (nothing_taken s k take.answers take.queue) (to_host_imp i s k take.imp) (take_messages n i s k [] [] take is) none is

pub take_sound : (n : Net) (h : Host) → take_refusal n h ≡ None → IsSound n → IsSound (take_in n h)
take_sound n h accepted is =
    let last : Option CarrierFault = at_up (imp_at n.imps h.imp) (λ s. to_host_refusal s h.host) in
    let there : (not (is_host n.hosts h) ≡ false) × (last ≡ None) = guard _ _ last accepted in
    by (imp_at n.imps h.imp) refl there.1
  where
    up : (s : State) (k : ℕ) → to_host_refusal s k ≡ None → is_up s k ≡ true
    up s k own =
        let full : Option CarrierFault = cond (taking_has_room (host_at s k).answers (host_at s k).queue s) None (Some fault.NoRoom) in
        let down : Option CarrierFault = events.first_of (not (is_up s k)) fault.IsDown full in
        let here : (not (is_there s k) ≡ false) × (down ≡ None) = guard _ _ down own in
        let live : (not (is_up s k) ≡ false) × (full ≡ None) = guard _ _ full here.1 in
        not_false (is_up s k) live.0

    by : (o : Option State) → imp_at n.imps h.imp ≡ o → at_up o (λ s. to_host_refusal s h.host) ≡ None → IsSound (logging (crossings_of (given_at o h.host)) (at_imp o h.imp (λ s. to_host s h.host) n))
    by None at own = absurd (cc)
    by (Some s) at own =
        take_by n h.imp s h.host _ _
        (record { at = at; up = up s h.host own; imp = subst (IsAt h.imp) at (is.imps h.imp); answers = refl; queue = refl }) is
