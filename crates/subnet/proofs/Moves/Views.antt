-- What is so of each flow after a call of one IMP.
use Rattle.subnet.proofs.Common.{◌≡◌, ℕ, zero, suc, Bool, List, [], ◌∷◌, ◌++◌, Option, Some, None, refl, ap, sym, ◌∙◌, Contains, slice_set, flat_map, All-contains, Box, Flow, Packet, Message, State, HostState, ImpTurn, Sender, Receiver, Unmoved, same_at, Net, imp_at, with_turn, packets, messages_at_imp, Alive, imp_is_up, sender_at, receiver_at, view_of, view, NothingNew}
use Rattle.imp_node.specs.Contents as imp

-- two views with the same parts
pub view_parts : (u v : Bool) (s t : Sender) (w x : Bool) (q r : Receiver) (b : Box) → u ≡ v → s ≡ t → w ≡ x → q ≡ r → view_of u s w q b ≡ view_of v t x r b
view_parts u v s t w x q r b from source to destination = rw (from, source, to, destination) refl

-- a flow that a call of one IMP leaves unchanged
pub turn_view : (n : Net) (i : ℕ) (s : State) (turn : ImpTurn) (f : Flow) → imp_at n.imps i ≡ Some s → Unmoved s turn.state f → view (with_turn i turn n) f ≡ view n f
turn_view n i s turn f at still =
    let imps : List (Option State) = slice_set n.imps i (Some turn.state) in
    view_parts
    _ _
    _ _
    _ _
    _ _
    _
    (same_at imp_is_up n.imps i _ (Some turn.state) None (ap imp_is_up (sym at)))
    (same_at (λ (o : Option State). sender_at o f) n.imps i f.source.imp (Some turn.state) None (still.sender ∙ ap (λ (o : Option State). sender_at o f) (sym at)))
    (same_at imp_is_up n.imps i _ (Some turn.state) None (ap imp_is_up (sym at)))
    (same_at (λ (o : Option State). receiver_at o f) n.imps i f.destination.imp (Some turn.state) None (still.receiver ∙ ap (λ (o : Option State). receiver_at o f) (sym at)))

-- where nothing is new, what is alive of a flow was alive before
pub alive_less : (n m : Net) (f : Flow) (x : Packet) → NothingNew n m → Alive m f x → Alive n f x
alive_less n m f x among a = record { fields = a.fields; there = All-contains (Contains (packets n)) (packets m) a.fields among a.there; flow = a.flow; packet = a.packet }

-- a call that leaves the queues of an IMP unchanged leaves all messages in queues
pub held_messages : (imps : List (Option State)) (i : ℕ) (s t : State) → imp_at imps i ≡ Some s → imp.messages t ≡ imp.messages s → flat_map messages_at_imp (slice_set imps i (Some t)) ≡ flat_map messages_at_imp imps
held_messages [] i s t at same = refl
held_messages (o ∷ imps) zero s t at same = ap (λ (ms : List Message). ms ++ flat_map messages_at_imp imps) (same ∙ ap messages_at_imp (sym at))
held_messages (o ∷ imps) (suc i) s t at same = ap (λ (ms : List Message). messages_at_imp o ++ ms) (held_messages imps i s t at same)

-- so does one that leaves its hosts unchanged
pub same_messages : (imps : List (Option State)) (i : ℕ) (s t : State) → imp_at imps i ≡ Some s → t.hosts ≡ s.hosts → flat_map messages_at_imp (slice_set imps i (Some t)) ≡ flat_map messages_at_imp imps
same_messages imps i s t at same = held_messages imps i s t at (ap (λ (hosts : List HostState). flat_map (λ (h : HostState). h.queue) hosts) same)
