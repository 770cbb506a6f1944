-- A call of one IMP that moves one flow.
use Rattle.subnet.proofs.Common.{slice_set, flat_map, cases_Bool, All-append, All-weaker, All-contains, All-contains_itself, Contains-append_left, Contains-append_right, Contains-append_cases, same_flow, Host, Flow, Answer, Crossing, HostMessage, same_flow-refl, same_flow-true, PacketFields, IsPacket, flow_of, Packet, Move, shown_by, Follows, passed_over, Message, State, HostState, ImpTurn, answer_packet, Sender, Receiver, sender, receiver, IsImp, Unmoved, Net, imp_at, with_turn, packets, messages_at_imp, logging, NothingNew, OnlyNew, IsAt, IsSound}
use Rattle.std.proofs.Common.{◌≡◌, ℕ, zero, suc, Bool, true, false, List, [], ◌∷◌, ◌++◌, set, Option, Some, None, refl, ap, sym, ◌∙◌, subst, ◌⊎◌, inl, inr, All, Contains}
use Rattle.interface.specs.Mailboxes.{Box, box_of, UpsAreHosts}
use Rattle.interface.specs.declared.crossing.Crossing.TheVariants as crossing
use Rattle.packetiser.specs.declared.packet.PacketKind.TheVariants as kind
use Rattle.flow_law.proofs.lemmas.{answer_elsewhere, in_elsewhere, one_follows, out_elsewhere, silent_follows}
use Rattle.imp_node.specs.Contents as contents
use Rattle.imp_node.proofs.lemmas.{Has, TurnHas, at_set, same_at}
use Rattle.subnet.specs.Flows.{Piece, Alive, packet_of, imp_is_up, sender_at, receiver_at, view_of, view}
use Rattle.subnet.proofs.Packets.Having.{ImpHas, NetHas, net_packets, packets_net, net_itself, imp_has, with_turn_has}
use Rattle.subnet.proofs.Moves.Askable.{Askable, one_begins, same_askable, moved_askable}
use Rattle.subnet.proofs.Moves.QuietCalls.{formats_less}
use Rattle.subnet.proofs.Calls.Silence.{parts_left, parts_right, at_imp_all}
use Rattle.subnet.proofs.Moves.Views.{turn_view, alive_less}

-- ---- the packets after a turn

-- a turn that makes these packets
pub turn_only : (n : Net) (i : ℕ) (s : State) (turn : ImpTurn) (made : List PacketFields) → imp_at n.imps i ≡ Some s
    → (Has (Contains (packets n ++ made)) s → All (Contains (packets n ++ made)) made → TurnHas (Contains (packets n ++ made)) turn) → OnlyNew n made (with_turn i turn n)
turn_only n i s turn made at has =
    let P : PacketFields → Type 0 = Contains (packets n ++ made) in
    let old : All P (packets n) = All-weaker (Contains (packets n)) P (λ p there. Contains-append_left (packets n) made p there) (packets n) (All-contains_itself (packets n)) in
    let new : All P made = All-weaker (Contains made) P (λ p there. Contains-append_right (packets n) made p there) made (All-contains_itself made) in
    let h : NetHas P n = packets_net P n old in
    net_packets P _ (with_turn_has P i turn n h (has (subst (ImpHas P) at (imp_has P n.imps i h.imps)) new))

-- a turn that makes none
pub turn_nothing : (n : Net) (i : ℕ) (s : State) (turn : ImpTurn) → imp_at n.imps i ≡ Some s → (Has (Contains (packets n)) s → TurnHas (Contains (packets n)) turn) → NothingNew n (with_turn i turn n)
turn_nothing n i s turn at has =
    let P : PacketFields → Type 0 = Contains (packets n) in
    let h : NetHas P n = net_itself n in
    net_packets P _ (with_turn_has P i turn n h (has (subst (ImpHas P) at (imp_has P n.imps i h.imps))))

-- what is alive of a flow was alive before, or is a packet that was made
pub alive_or_made : (n m : Net) (made : List PacketFields) (Made : Packet → Type 0) (f : Flow) (x : Packet) → OnlyNew n made m → All (λ p. Made (packet_of p)) made → Alive m f x → Alive n f x ⊎ Made x
alive_or_made n m made Made f x only all a =
    elim (Contains-append_cases (packets n) made a.fields (All-contains (Contains (packets n ++ made)) (packets m) a.fields only a.there)) [
      | inl there ↦ inl (record { fields = a.fields; there = there; flow = a.flow; packet = a.packet })
      | inr there ↦ inr (subst Made a.packet (All-contains (λ (p : PacketFields). Made (packet_of p)) made a.fields all there))
    ]

-- where what was made is of one flow, what is alive of another was alive before
alive_beside : (n m : Net) (made : List PacketFields) (f g : Flow) (x : Packet) → OnlyNew n made m → All (λ p. flow_of p ≡ g) made → same_flow f g ≡ false → Alive m f x → Alive n f x
alive_beside n m made f g x only all other a =
    elim (Contains-append_cases (packets n) made a.fields (All-contains (Contains (packets n ++ made)) (packets m) a.fields only a.there)) [
      | inl there ↦ record { fields = a.fields; there = there; flow = a.flow; packet = a.packet }
      | inr there ↦ (let of : flow_of a.fields ≡ g = All-contains (λ (p : PacketFields). flow_of p ≡ g) made a.fields all there in
          let same : same_flow f g ≡ true = subst (λ (k : Flow). same_flow f k ≡ true) (sym a.flow ∙ of) (same_flow-refl f) in
          let both : true ≡ false = sym same ∙ other in
          absurd (cc))
    ]

-- ---- the messages after a turn

-- the answer to a message that waits is a packet by the format
abbrev pub Answerable : Message → Type 0
Answerable q = IsPacket (answer_packet kind.Rfnm q.flow q.number)

pub set_queue : (P : Message → Type 0) (hosts : List HostState) (h : ℕ) (x : HostState) → All P (flat_map (λ (y : HostState). y.queue) hosts) → All P x.queue → All P (flat_map (λ (y : HostState). y.queue) (set hosts h x))
set_queue P [] h x all new = all
set_queue P (y ∷ hosts) zero x all new = All-append P x.queue (flat_map (λ (z : HostState). z.queue) hosts) new (parts_right P _ _ all)
set_queue P (y ∷ hosts) (suc h) x all new =
    All-append P y.queue (flat_map (λ (z : HostState). z.queue) (set hosts h x)) (parts_left P _ _ all)
    (set_queue P hosts h x (parts_right P _ _ all) new)

pub set_messages : (P : Message → Type 0) (imps : List (Option State)) (i : ℕ) (t : State) → All P (flat_map messages_at_imp imps) → All P (contents.messages t) → All P (flat_map messages_at_imp (slice_set imps i (Some t)))
set_messages P [] i t all new = all
set_messages P (o ∷ imps) zero t all new = All-append P (contents.messages t) (flat_map messages_at_imp imps) new (parts_right P _ _ all)
set_messages P (o ∷ imps) (suc i) t all new =
    All-append P (messages_at_imp o) (flat_map messages_at_imp (slice_set imps i (Some t))) (parts_left P _ _ all)
    (set_messages P imps i t (parts_right P _ _ all) new)

-- ---- the view of the flow that moves

pub set_here : (imps : List (Option State)) (i : ℕ) (o : Option State) (u : State) → imp_at imps i ≡ Some u → imp_at (slice_set imps i o) i ≡ o
set_here [] i o u at = absurd (cc)
set_here (p ∷ imps) zero o u at = refl
set_here (p ∷ imps) (suc i) o u at = set_here imps i o u at

-- one of its sides changes at the IMP, or stays
pub source_changed : (change : Sender → Sender) (imps : List (Option State)) (i : ℕ) (s t : State) (g : Flow) → imp_at imps i ≡ Some s → g.source.imp ≡ i → sender t g ≡ change (sender s g)
    → sender_at (imp_at (slice_set imps i (Some t)) g.source.imp) g ≡ change (sender_at (imp_at imps g.source.imp) g)
source_changed change imps i s t g at here moved =
    ap (λ (k : ℕ). sender_at (imp_at (slice_set imps i (Some t)) k) g) here
    ∙ ap (λ (o : Option State). sender_at o g) (set_here imps i _ s at)
    ∙ moved
    ∙ ap (λ (o : Option State). change (sender_at o g)) (sym at)
    ∙ ap (λ (k : ℕ). change (sender_at (imp_at imps k) g)) (sym here)

pub source_same : (imps : List (Option State)) (i : ℕ) (s t : State) (g : Flow) → imp_at imps i ≡ Some s → sender t g ≡ sender s g → sender_at (imp_at (slice_set imps i (Some t)) g.source.imp) g ≡ sender_at (imp_at imps g.source.imp) g
source_same imps i s t g at still = same_at (λ (o : Option State). sender_at o g) imps i g.source.imp (Some t) None (still ∙ ap (λ (o : Option State). sender_at o g) (sym at))

pub destination_changed : (change : Receiver → Receiver) (imps : List (Option State)) (i : ℕ) (s t : State) (g : Flow) → imp_at imps i ≡ Some s → g.destination.imp ≡ i → receiver t g ≡ change (receiver s g)
    → receiver_at (imp_at (slice_set imps i (Some t)) g.destination.imp) g ≡ change (receiver_at (imp_at imps g.destination.imp) g)
destination_changed change imps i s t g at here moved =
    ap (λ (k : ℕ). receiver_at (imp_at (slice_set imps i (Some t)) k) g) here
    ∙ ap (λ (o : Option State). receiver_at o g) (set_here imps i _ s at)
    ∙ moved
    ∙ ap (λ (o : Option State). change (receiver_at o g)) (sym at)
    ∙ ap (λ (k : ℕ). change (receiver_at (imp_at imps k) g)) (sym here)

pub destination_same : (imps : List (Option State)) (i : ℕ) (s t : State) (g : Flow) → imp_at imps i ≡ Some s → receiver t g ≡ receiver s g
    → receiver_at (imp_at (slice_set imps i (Some t)) g.destination.imp) g ≡ receiver_at (imp_at imps g.destination.imp) g
destination_same imps i s t g at still = same_at (λ (o : Option State). receiver_at o g) imps i g.destination.imp (Some t) None (still ∙ ap (λ (o : Option State). receiver_at o g) (sym at))

-- both IMPs stay up, the sides are these now, and so is the box
pub moved_view : (n : Net) (i : ℕ) (s : State) (turn : ImpTurn) (entries : List Crossing) (g : Flow) (from : Sender) (to : Receiver) (box : Box) → imp_at n.imps i ≡ Some s
    → sender_at (imp_at (slice_set n.imps i (Some turn.state)) g.source.imp) g ≡ from
    → receiver_at (imp_at (slice_set n.imps i (Some turn.state)) g.destination.imp) g ≡ to
    → box_of g (entries ++ n.log) ≡ box
    → view (logging entries (with_turn i turn n)) g ≡ view_of (imp_is_up (imp_at n.imps g.source.imp)) from (imp_is_up (imp_at n.imps g.destination.imp)) to box
moved_view n i s turn entries g from to box at source destination boxes =
    let imps : List (Option State) = slice_set n.imps i (Some turn.state) in
    let from_up : imp_is_up (imp_at imps g.source.imp) ≡ imp_is_up (imp_at n.imps g.source.imp) = same_at imp_is_up n.imps i _ _ None (ap imp_is_up (sym at)) in
    let to_up : imp_is_up (imp_at imps g.destination.imp) ≡ imp_is_up (imp_at n.imps g.destination.imp) = same_at imp_is_up n.imps i _ _ None (ap imp_is_up (sym at)) in
    same_parts
    _ _ _ from
    _ _ _ to
    _ box from_up source to_up destination boxes
  where
    same_parts : (u v : Bool) (a b : Sender) (w x : Bool) (q r : Receiver) (c d : Box) → u ≡ v → a ≡ b → w ≡ x → q ≡ r → c ≡ d → view_of u a w q c ≡ view_of v b x r d
    same_parts u v a b w x q r c d e f g h k = rw (e, f, g, h, k) refl

-- ---- crossings of one flow

pub record AreOf (hosts : List Host) (g : Flow) (entries log : List Crossing) : Type 0 where
  pub ups : UpsAreHosts hosts entries
  pub unseen : (f : Flow) → same_flow f g ≡ false → passed_over f entries log ≡ []
  pub boxes : (f : Flow) → same_flow f g ≡ false → box_of f (entries ++ log) ≡ box_of f log

pub none_cross : (hosts : List Host) (g : Flow) (log : List Crossing) → AreOf hosts g [] log
none_cross hosts g log = record { ups = tt; unseen = λ f other. refl; boxes = λ f other. refl }

pub out_crosses : (hosts : List Host) (m : HostMessage) (log : List Crossing) → AreOf hosts m.flow (crossing.Out m ∷ []) log
out_crosses hosts m log = record { ups = tt; unseen = λ f other. out_elsewhere f m log other; boxes = λ f other. rw other refl }

pub in_crosses : (hosts : List Host) (m : HostMessage) (log : List Crossing) → AreOf hosts m.flow (crossing.In m ∷ []) log
in_crosses hosts m log = record { ups = tt; unseen = λ f other. in_elsewhere f m log other; boxes = λ f other. rw other refl }

pub answer_crosses : (hosts : List Host) (told : Answer) (g : Flow) (log : List Crossing) → AreOf hosts g (crossing.Answer told g ∷ []) log
answer_crosses hosts told g log = record { ups = tt; unseen = λ f other. answer_elsewhere told f g log other; boxes = λ f other. rw other refl }

-- ---- the turn

-- a turn of one IMP, with these crossings: a flow makes these moves and these packets, and all others stay
pub record IsTurnOf (n : Net) (i : ℕ) (s : State) (turn : ImpTurn) (entries : List Crossing) (g : Flow) (moves : List Move) (made : List PacketFields) : Type 0 where
  pub at : imp_at n.imps i ≡ Some s
  pub sound : IsImp i turn.state
  pub others : (f : Flow) → same_flow f g ≡ false → Unmoved s turn.state f
  pub crossings : AreOf n.hosts g entries n.log
  pub only : OnlyNew n made (with_turn i turn n)
  pub of_flow : All (λ p. flow_of p ≡ g) made
  pub formats : All IsPacket made
  pub answers : All Answerable (contents.messages turn.state)
  pub here : Follows Piece moves (view n g) (view (logging entries (with_turn i turn n)) g) (Alive n g) (Alive (logging entries (with_turn i turn n)) g)
  pub shown : passed_over g entries n.log ≡ shown_by moves (view n g)
  pub begun : (one_begins moves ≡ false) ⊎ Askable (logging entries (with_turn i turn n)) g

-- it keeps a subnet sound
pub followed_turn : (n : Net) (i : ℕ) (s : State) (turn : ImpTurn) (entries : List Crossing) (g : Flow) (moves : List Move) (made : List PacketFields)
    → IsTurnOf n i s turn entries g moves made → IsSound n → IsSound (logging entries (with_turn i turn n))
followed_turn n i s turn entries g moves made t is =
    let m : Net = logging entries (with_turn i turn n) in
    let imps : List (Option State) = slice_set n.imps i (Some turn.state) in
    let all : All IsPacket (packets n ++ made) = All-append IsPacket (packets n) made is.formats t.formats in
    let still : (f : Flow) → same_flow f g ≡ false → view m f ≡ view n f = λ f other.
    ap (λ (b : Box). view_of (imp_is_up (imp_at imps f.source.imp)) (sender_at (imp_at imps f.source.imp) f) (imp_is_up (imp_at imps f.destination.imp)) (receiver_at (imp_at imps f.destination.imp) f) b) (t.crossings.boxes f other)
    ∙ turn_view n i s turn f t.at (t.others f other) in
    let here : Askable m g = elim t.begun [
      | inl none ↦ moved_askable n m g moves t.here.view none is
      | inr asked ↦ asked
    ] in
    record {
      flows = one_follows _ entries n.log g moves _ _ _ _ t.crossings.ups (record {
        here = t.here;
        shown = t.shown;
        view = still;
        packets = λ f other x. alive_beside n m made f g x t.only t.of_flow other;
        unseen = t.crossings.unseen;
      }) is.flows;
      imps = λ k. at_set IsAt n.imps i k (Some turn.state) None (is.imps k) t.sound;
      formats = All-weaker (Contains (packets n ++ made)) IsPacket (λ p there. All-contains IsPacket (packets n ++ made) p all there) (packets m) t.only;
      answers = set_messages Answerable n.imps i _ is.answers t.answers;
      askable = λ f. elim (cases_Bool (same_flow f g)) [
        | inl same ↦ subst (Askable m) (sym (same_flow-true f g same)) here
        | inr other ↦ same_askable n m f (still f other) is
      ];
    }

-- ---- a silent turn

-- a turn of one IMP that moves no flow and makes nothing keeps a subnet sound
pub silent_turn : (n : Net) (i : ℕ) (s : State) (turn : ImpTurn) → imp_at n.imps i ≡ Some s → ((f : Flow) → Unmoved s turn.state f) → IsImp i turn.state → All Answerable (contents.messages turn.state)
    → NothingNew n (with_turn i turn n) → IsSound n → IsSound (with_turn i turn n)
silent_turn n i s turn at still imp answers among is =
    let m : Net = with_turn i turn n in
    record {
      flows = silent_follows _ n.log _ _ _ _ (λ f. turn_view n i s turn f at (still f)) (λ f x. alive_less n m f x among) is.flows;
      imps = λ k. at_set IsAt n.imps i k (Some turn.state) None (is.imps k) imp;
      formats = formats_less n m among is.formats;
      answers = set_messages Answerable n.imps i _ is.answers answers;
      askable = λ f. same_askable n m f (turn_view n i s turn f at (still f)) is;
    }

-- ---- what waits at an IMP of a sound subnet

pub answerable : (n : Net) (i : ℕ) (s : State) → imp_at n.imps i ≡ Some s → IsSound n → All Answerable (contents.messages s)
answerable n i s at is = subst (λ (o : Option State). All Answerable (messages_at_imp o)) at (at_imp_all Answerable n.imps i is.answers)
