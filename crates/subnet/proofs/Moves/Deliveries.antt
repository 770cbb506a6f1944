-- A frame is delivered.
use Rattle.subnet.proofs.Common.{flat_map, map-append, All-nil, All-cons, All-head, All-push, All-weaker, All-contains, All-contains_itself, Contains-append_left, Flow, Answer, Direction, outstanding_in, release_in, Fate, Release, Standing, PacketKind, carried_by, answer_to, ChannelFault, Frame, Received, makes_one, Message, State, ImpTurn, number, host_at, port_at, answer_packet, pump, Sender, Receiver, sender, receiver, ended_with, noted_with, queued_with, IsImp, AllUnmoved, Moved, Net, imp_at, wire_at, port_of, with_turn, frames_on, far_end, packets, at_imp, delivered, deliver, Alive, kind_of, packet_of, queued_of, imp_is_up, sender_at, receiver_at, view_of, view, IsAt, IsSound}
use Rattle.link_table.specs.Flows.{fate_in, kept_in}
use Rattle.std.proofs.Common.{◌≡◌, ℕ, Bool, true, false, List, [], ◌∷◌, ◌++◌, Option, Some, None, Result, Ok, Err, refl, ap, sym, ◌∙◌, subst, inl, inr, ◌==◌, eqb-true, cond, append-nil, All, Contains}
use Rattle.std.specs.Prelude.{slice_get}
use Rattle.std.specs.FinMap as finite
use Rattle.bit_messages.specs.Body.{body, text_of}
use Rattle.bit_messages.proofs.lemmas.{text_of-body}
use Rattle.interface.specs.declared.crossing.Answer.TheVariants as answer
use Rattle.link_table.specs.declared.destination.Fate.TheVariants as fate
use Rattle.link_table.specs.Numbers.{is_new}
use Rattle.link_table.specs.declared.source.Release.TheVariants as release
use Rattle.link_table.specs.declared.source.Standing.TheVariants as standing
use Rattle.packetiser.specs.PacketFields.{PacketFields, Carries, IsPacket, flow_of}
use Rattle.packetiser.specs.Pieces.{CarriesPieceOf}
use Rattle.packetiser.specs.Rejoining.{IsRejoined}
use Rattle.packetiser.specs.Slots as slots
use Rattle.packetiser.specs.Slots.{IsPieceFor, gathered, joined_pieces}
use Rattle.packetiser.specs.declared.packet.PacketKind.TheVariants as kind
use Rattle.packetiser.proofs.lemmas.{joined_whole, rejoined}
use Rattle.imp_channel.specs.declared.line.Received.TheVariants as received
use Rattle.imp_channel.proofs.lemmas.{fresh_carried}
use Rattle.flow_law.specs.View.{View, Packet, Queued, is_refusal}
use Rattle.flow_law.specs.Moves as law
use Rattle.flow_law.specs.Moves.{Move, NoteGone, Whole, Freed, Reply, Brings, CanNote, Joined, IsLost, IsRefusal, IsTold, view_moved}
use Rattle.imp_node.specs.Arrival as arrivals
use Rattle.imp_node.specs.Arrival.{Arrival, Passing, Old, Undeliverable, Replying, Piece, NoSlot, Unmarked, Answering, arrival, arrival_has_room, arrived, frame_taken, acknowledged, ignored, taken_frame, from_line}
use Rattle.imp_node.specs.Contents as contents
use Rattle.imp_node.specs.Making.{told_for}
use Rattle.imp_node.specs.Moves.{IsNewHere, IsAskedHere, IsRefused, TellsFate, MakesWhole, Tells, ArrivalSays, ArrivalMoves, AnswerMoves, FrameMoves}
use Rattle.imp_node.proofs.lemmas.{Has, OutgoingHas, TurnHas, arrival_says, from_line_has, from_line_imp, from_line_moves, noted_moved, pump_has, quiet_has, taken_has}
use Rattle.subnet.specs.Flows as flows
use Rattle.subnet.specs.Making.{NothingNew, OnlyNew, told_made}
use Rattle.subnet.proofs.Packets.Having.{FrameHas, ImpHas, GotHas, net_itself, content_has, frame_packets, imp_has, got_has}
use Rattle.subnet.proofs.Packets.OnLines.{way_holds, wire_holds}
use Rattle.subnet.proofs.Packets.HavingByEvents.{brings}
use Rattle.subnet.proofs.Moves.Offers.{answer_format}
use Rattle.subnet.proofs.Calls.Silence.{at_host_all}
use Rattle.subnet.proofs.Moves.Fates.{request_is}
use Rattle.subnet.proofs.Moves.Views.{turn_view}
use Rattle.subnet.proofs.Moves.Takes.{freed_messages}
use Rattle.subnet.proofs.Moves.Turns.{Answerable, turn_only, turn_nothing, alive_or_made, set_queue, answerable, source_changed, source_same, destination_changed, destination_same, moved_view, none_cross, followed_turn, silent_turn}

-- ---- what waits after a packet arrived

told_format : (p : PacketFields) → IsPacket p → IsPacket (answer_packet kind.Rfnm (flow_of p) p.number)
told_format p format = answer_format _ _ _ (record { first = refl; only = refl; empty = refl }) format.source format.destination format.link format.number

arrived_answers : (a : Arrival) (p : PacketFields) (s : State) → IsPacket p → All Answerable (contents.messages s) → All Answerable (contents.messages (arrived a p s))
arrived_answers Passing p s format all = all
arrived_answers Old p s format all = all
arrived_answers (Undeliverable new told) p s format all = all
arrived_answers (Replying told) p s format all = all
arrived_answers Piece p s format all = all
arrived_answers NoSlot p s format all = all
arrived_answers (arrivals.Whole text) p s format all =
    let h : ℕ = p.destination.host in
    let q : Message = record { flow = flow_of p; number = p.number; text = text } in
    set_queue Answerable _ h _ all
    (All-push Answerable (host_at s h).queue q (at_host_all Answerable _ h all) (told_format p format))
arrived_answers Unmarked p s format all = all
arrived_answers (Answering k) p s format all = freed_messages k _ _ s all

-- ---- a packet that arrived, and what its arrival did

-- a turn that a packet which was alive brought about
record IsBrought (n : Net) (i : ℕ) (s : State) (p : PacketFields) (turn : ImpTurn) : Type 0 where
  pub at : imp_at n.imps i ≡ Some s
  pub old : IsImp i s
  pub new : IsImp i turn.state
  pub there : Contains (packets n) p
  pub format : IsPacket p
  pub answers : All Answerable (contents.messages turn.state)

nothing_only : (n m : Net) → OnlyNew n [] m → NothingNew n m
nothing_only n m only = subst (λ (ps : List PacketFields). All (Contains ps) (packets m)) (append-nil (packets n)) only

silent_arrival : (n : Net) (i : ℕ) (s : State) (p : PacketFields) (turn : ImpTurn) → IsBrought n i s p turn → AllUnmoved s turn.state → OnlyNew n [] (with_turn i turn n) → IsSound n → IsSound (with_turn i turn n)
silent_arrival n i s p turn b still only is = silent_turn n i s turn b.at still b.new b.answers (nothing_only n (with_turn i turn n) only) is

alive_here : (n : Net) (p : PacketFields) → Contains (packets n) p → Alive n (flow_of p) (packet_of p)
alive_here n p there = record { fields = p; there = there; flow = refl; packet = refl }

-- the IMP of a request's destination
home : (n : Net) (i : ℕ) (s : State) (p : PacketFields) (turn : ImpTurn) → IsBrought n i s p turn → IsNewHere s p → p.destination.imp ≡ i
home n i s p turn b new = new.here ∙ b.old.own

can_note : (n : Net) (i : ℕ) (s : State) (p : PacketFields) (turn : ImpTurn) → IsBrought n i s p turn → IsNewHere s p → CanNote (view n (flow_of p)) (Alive n (flow_of p)) (packet_of p)
can_note n i s p turn b new =
    let g : Flow = flow_of p in
    let at : imp_at n.imps g.destination.imp ≡ Some s = ap (imp_at n.imps) (home n i s p turn b new) ∙ b.at in
    record {
      there = alive_here n p b.there;
      new = record {
        up = ap imp_is_up at;
        request = request_is p.kind ∙ new.request;
        new = ap (λ (o : Option State). is_new (kept_in (receiver_at o g).kept) p.number) at ∙ new.new;
      };
    }

-- its number is noted with a fate, and the message is gone
noted_sound : (n : Net) (i : ℕ) (s : State) (p : PacketFields) (turn : ImpTurn) (made : List PacketFields) (lost : Fate) → IsLost lost → IsBrought n i s p turn → IsNewHere s p
    → Moved s turn.state (flow_of p) (sender s (flow_of p)) (noted_with p.number lost (receiver s (flow_of p)))
    → OnlyNew n made (with_turn i turn n) → All (λ q. flow_of q ≡ flow_of p) made → All IsPacket made → All (λ q. IsRefusal p.number (packet_of q)) made
    → IsSound n → IsSound (with_turn i turn n)
noted_sound n i s p turn made lost gone b new moved only of_flow formats dead is =
    let g : Flow = flow_of p in
    let next : Net = with_turn i turn n in
    let move : Move = NoteGone (packet_of p) lost in
    followed_turn n i s turn [] g _ made (record {
      at = b.at;
      sound = b.new;
      others = moved.others;
      crossings = none_cross _ g n.log;
      only = only;
      of_flow = of_flow;
      formats = formats;
      answers = b.answers;
      here =
          makes_one move _ _ _ _ (can_note n i s p turn b new, gone)
          (moved_view n i s turn [] g _ _ _ b.at
          (source_same n.imps i s _ g b.at moved.sender)
          (destination_changed (noted_with p.number lost) n.imps i s _ g b.at (home n i s p turn b new) moved.receiver)
          refl)
          (λ x. alive_or_made n next made (IsRefusal p.number) g x only dead);
      shown = refl;
      begun = inl refl;
    }) is

-- a packet of any kind but data that reports on this one is by the format
reply_format : (told : PacketKind) (p : PacketFields) → IsPacket p → Carries told 0 true 0 → IsPacket (answer_packet told (flow_of p) p.number)
reply_format told p format carries = answer_format told _ _ carries format.source format.destination format.link format.number

-- what is answered about a number that is noted without its message being taken
record RefusedWith (new : Fate) (told : PacketKind) : Type 0 where
  pub lost : IsLost new
  pub refusal : is_refusal (kind_of told) ≡ true
  pub carries : Carries told 0 true 0

refused_with : (new : Fate) (told : PacketKind) (s : State) (p : PacketFields) → IsRefused new told s p → RefusedWith new told
refused_with fate.Waits told s p says = absurd says
refused_with fate.Taken told s p says = absurd says
refused_with fate.Dead told s p says = subst (RefusedWith fate.Dead) (sym says.0) (record { lost = tt; refusal = refl; carries = record { first = refl; only = refl; empty = refl } })
refused_with fate.Never told s p says = subst (RefusedWith fate.Never) (sym says.0) (record { lost = tt; refusal = refl; carries = record { first = refl; only = refl; empty = refl } })

-- a piece came for a host that is down or not there, and Dead is made; or a question about a new number, and Never is made
undeliverable_sound : (n : Net) (i : ℕ) (s : State) (p : PacketFields) (turn : ImpTurn) (new : Fate) (told : PacketKind) → IsRefused new told s p → IsBrought n i s p turn → IsNewHere s p
    → Moved s turn.state (flow_of p) (sender s (flow_of p)) (noted_with p.number new (receiver s (flow_of p)))
    → OnlyNew n (answer_packet told (flow_of p) p.number ∷ []) (with_turn i turn n) → IsSound n → IsSound (with_turn i turn n)
undeliverable_sound n i s p turn new told refused b here moved only is =
    let g : Flow = flow_of p in
    let reply : PacketFields = answer_packet told g p.number in
    let r : RefusedWith new told = refused_with new told s p refused in
    let Ours : PacketFields → Type 0 = λ q. flow_of q ≡ g in
    let Told : PacketFields → Type 0 = λ q. IsRefusal p.number (packet_of q) in
    noted_sound n i s p turn _ new r.lost b here moved only
    (All-cons Ours reply [] refl (All-nil Ours))
    (All-cons IsPacket reply [] (reply_format told p b.format r.carries) (All-nil IsPacket))
    (All-cons Told reply [] (record { refusal = r.refusal; number = refl }) (All-nil Told)) is

-- ---- a question about the number that is kept

-- what is reported of a fate is true
record RepliedWith (old : Fate) (told : PacketKind) : Type 0 where
  pub tells : law.Tells old (kind_of told)
  pub carries : Carries told 0 true 0

replied_with : (old : Fate) (told : PacketKind) → TellsFate old told → RepliedWith old told
replied_with fate.Waits told says = absurd says
replied_with fate.Taken told says = subst (RepliedWith fate.Taken) (sym says) (record { tells = refl; carries = record { first = refl; only = refl; empty = refl } })
replied_with fate.Dead told says = subst (RepliedWith fate.Dead) (sym says) (record { tells = refl; carries = record { first = refl; only = refl; empty = refl } })
replied_with fate.Never told says = subst (RepliedWith fate.Never) (sym says) (record { tells = refl; carries = record { first = refl; only = refl; empty = refl } })

-- it moves no flow, and what is reported goes to the source
replying_sound : (n : Net) (i : ℕ) (s : State) (p : PacketFields) (turn : ImpTurn) (told : PacketKind) → IsBrought n i s p turn → IsAskedHere s p told → AllUnmoved s turn.state
    → OnlyNew n (answer_packet told (flow_of p) p.number ∷ []) (with_turn i turn n) → IsSound n → IsSound (with_turn i turn n)
replying_sound n i s p turn told b asked still only is =
    let g : Flow = flow_of p in
    let next : Net = with_turn i turn n in
    let move : Move = Reply (packet_of p) (kind_of told) in
    let reply : PacketFields = answer_packet told g p.number in
    let r : RepliedWith asked.noted.fate told = replied_with _ told asked.tells in
    let at : imp_at n.imps g.destination.imp ≡ Some s = ap (imp_at n.imps) (asked.here ∙ b.old.own) ∙ b.at in
    let known : (receiver_at (imp_at n.imps g.destination.imp) g).kept ≡ Some asked.noted = ap (λ (o : Option State). (receiver_at o g).kept) at ∙ asked.kept in
    let fated : asked.noted.fate ≡ (view n g).fate = sym (ap fate_in known) in
    let Ours : PacketFields → Type 0 = λ q. flow_of q ≡ g in
    let Told : PacketFields → Type 0 = λ q. IsTold (kind_of told) p.number (packet_of q) in
    followed_turn n i s turn [] g _ _ (record {
      at = b.at;
      sound = b.new;
      others = λ f other. still f;
      crossings = none_cross _ g n.log;
      only = only;
      of_flow = All-cons Ours reply [] refl (All-nil Ours);
      formats = All-cons IsPacket reply [] (reply_format told p b.format r.carries) (All-nil IsPacket);
      answers = b.answers;
      here =
          makes_one move _ _ _ _
          (record {
            there = alive_here n p b.there;
            kept = ap kept_in known ∙ ap Some asked.same;
            tells = subst (λ (x : Fate). law.Tells x (kind_of told)) fated r.tells;
          })
          (turn_view n i s turn g b.at (still g))
          (λ x. alive_or_made n next (reply ∷ []) (IsTold (kind_of told) p.number) g x only (All-cons Told reply [] (record { kind = refl; number = refl }) (All-nil Told)));
      shown = refl;
      begun = inl refl;
    }) is

-- ---- a piece makes its message whole

-- the pieces that are joined are alive, so they are those of any text whose pieces are all that is alive of the message
whole_joined : (n : Net) (i : ℕ) (s : State) (p : PacketFields) (turn : ImpTurn) (w : List Bool) → IsBrought n i s p turn → MakesWhole s p w → Joined flows.Piece (Alive n (flow_of p)) (packet_of p) (text_of w)
whole_joined n i s p turn w b makes text pieces =
    let g : Flow = flow_of p in
    let ps : List PacketFields = gathered s.slots p in
    let Held : PacketFields → Type 0 = Contains (packets n) in
    let r : IsRejoined s.slots p w = rejoined _ p w b.old.slots b.format makes.data_kind makes.whole in
    let has : Has Held s = subst (ImpHas Held) b.at (imp_has Held n.imps i (net_itself n).imps) in
    let all : All Held (slots.packets_in s.slots ++ p ∷ []) = All-push Held (slots.packets_in s.slots) p has.slots b.there in
    let held : (q : PacketFields) → Contains ps q → Held q = λ q there. All-contains Held (slots.packets_in s.slots ++ p ∷ []) q all (All-contains (Contains (slots.packets_in s.slots ++ p ∷ [])) ps q r.one_message.among there) in
    let carry : All (CarriesPieceOf (body text)) ps =
    All-weaker (Contains ps) (CarriesPieceOf (body text))
    (λ q there. (let of : IsPieceFor g p.number q = All-contains (IsPieceFor g p.number) ps q r.one_message.of_message there in
    let alive : Alive n g (packet_of q) = record { fields = q; there = held q there; flow = of.flow; packet = refl } in
    let here : flows.Piece text (packet_of q) = pieces (packet_of q) alive (ap kind_of of.data_kind) of.same_number in
    let carries : CarriesPieceOf (body text) q = record { there = here.there; flag = here.flag; same = here.same } in
    carries))
    ps (All-contains_itself ps) in
    ap text_of (r.bits ∙ joined_whole _ ps carry r.one_message.whole) ∙ text_of-body text

whole_sound : (n : Net) (i : ℕ) (s : State) (p : PacketFields) (turn : ImpTurn) (w text : List Bool) → IsBrought n i s p turn → MakesWhole s p w → text ≡ text_of w
    → Moved s turn.state (flow_of p) (sender s (flow_of p)) (queued_with (record { flow = flow_of p; number = p.number; text = text }) (noted_with p.number fate.Waits (receiver s (flow_of p))))
    → OnlyNew n [] (with_turn i turn n) → IsSound n → IsSound (with_turn i turn n)
whole_sound n i s p turn w text b makes is_text moved only is =
    let g : Flow = flow_of p in
    let next : Net = with_turn i turn n in
    let move : Move = Whole (packet_of p) text in
    let message : Message = record { flow = g; number = p.number; text = text } in
    let from : Sender = sender_at (imp_at n.imps g.source.imp) g in
    let to : Receiver = receiver_at (imp_at n.imps g.destination.imp) g in
    let joins : Joined flows.Piece (Alive n g) (packet_of p) text = λ other pieces. is_text ∙ whole_joined n i s p turn w b makes other pieces in
    let waits : view next g ≡ view_of (imp_is_up (imp_at n.imps g.source.imp)) from (imp_is_up (imp_at n.imps g.destination.imp)) (queued_with message (noted_with p.number fate.Waits to)) (view n g).box =
    moved_view n i s turn [] g from _ _ b.at
    (source_same n.imps i s _ g b.at moved.sender)
    (destination_changed (λ (r : Receiver). queued_with message (noted_with p.number fate.Waits r)) n.imps i s _ g b.at (home n i s p turn b makes.new) moved.receiver)
    refl in
    followed_turn n i s turn [] g _ [] (record {
      at = b.at;
      sound = b.new;
      others = moved.others;
      crossings = none_cross _ g n.log;
      only = only;
      of_flow = All-nil (λ (q : PacketFields). flow_of q ≡ g);
      formats = All-nil IsPacket;
      answers = b.answers;
      here =
          makes_one move _ _ _ _
          (record { note = can_note n i s p turn b makes.new; joined = joins })
          (waits ∙ ap (λ (q : List Queued). (let v : View = record (view_moved move (view n g)) { queue = q } in v)) (map-append queued_of to.queue (message ∷ [])))
          (λ x. alive_or_made n next [] (λ (y : Packet). ⊥) g x only (All-nil (λ (q : PacketFields). ⊥)));
      shown = refl;
      begun = inl refl;
    }) is

-- ---- an answer comes to its source

brings_of : (k : PacketKind) (a : Answer) → Tells k a → Brings (kind_of k) a
brings_of kind.Rfnm answer.Rfnm tells = tt
brings_of kind.Dead answer.Dead tells = tt
brings_of kind.Never answer.NotTaken tells = tt
brings_of kind.Data a tells = absurd tells
brings_of kind.Ask a tells = absurd tells
brings_of kind.Rfnm answer.Dead tells = absurd tells
brings_of kind.Rfnm answer.Incomplete tells = absurd tells
brings_of kind.Rfnm answer.NotTaken tells = absurd tells
brings_of kind.Dead answer.Rfnm tells = absurd tells
brings_of kind.Dead answer.Incomplete tells = absurd tells
brings_of kind.Dead answer.NotTaken tells = absurd tells
brings_of kind.Never answer.Rfnm tells = absurd tells
brings_of kind.Never answer.Dead tells = absurd tells
brings_of kind.Never answer.Incomplete tells = absurd tells

freed_awaited : (o : Option Standing) (number : ℕ) → release_in number o ≡ release.Freed → outstanding_in o ≡ Some number
freed_awaited None number e = absurd (cc)
freed_awaited (Some (standing.Idle l)) number e = absurd (cc)
freed_awaited (Some (standing.Answered l)) number e = absurd (cc)
freed_awaited (Some (standing.Outstanding l)) number e = by (l == number) refl e where
  by : (b : Bool) → (l == number) ≡ b → cond b release.Freed release.Stale ≡ release.Freed → outstanding_in (Some (standing.Outstanding l)) ≡ Some number
  by true same e = ap Some (eqb-true l number same)
  by false same e = absurd (cc)

answered_sound : (n : Net) (i : ℕ) (s : State) (p : PacketFields) (turn : ImpTurn) (k : Answer) → IsBrought n i s p turn → p.source.imp ≡ number s → Tells p.kind k → release_in p.number (finite.get s.sources (flow_of p)) ≡ release.Freed
    → Moved s turn.state (flow_of p) (ended_with k (sender s (flow_of p))) (receiver s (flow_of p)) → OnlyNew n [] (with_turn i turn n) → IsSound n → IsSound (with_turn i turn n)
answered_sound n i s p turn k b here tells frees moved only is =
    let g : Flow = flow_of p in
    let next : Net = with_turn i turn n in
    let move : Move = Freed (packet_of p) k in
    let source : g.source.imp ≡ i = here ∙ b.old.own in
    let at : imp_at n.imps g.source.imp ≡ Some s = ap (imp_at n.imps) source ∙ b.at in
    followed_turn n i s turn [] g _ [] (record {
      at = b.at;
      sound = b.new;
      others = moved.others;
      crossings = none_cross _ g n.log;
      only = only;
      of_flow = All-nil (λ (q : PacketFields). flow_of q ≡ g);
      formats = All-nil IsPacket;
      answers = b.answers;
      here =
          makes_one move _ _ _ _
          (record {
            there = alive_here n p b.there;
            brings = brings_of p.kind k tells;
            awaited = ap (λ (o : Option State). (sender_at o g).outstanding) at ∙ freed_awaited _ _ frees;
          })
          (moved_view n i s turn [] g _ _ _ b.at
          (source_changed (ended_with k) n.imps i s _ g b.at source moved.sender)
          (destination_same n.imps i s _ g b.at moved.receiver)
          refl)
          (λ x. alive_or_made n next [] (λ (y : Packet). ⊥) g x only (All-nil (λ (q : PacketFields). ⊥)));
      shown = refl;
      begun = inl refl;
    }) is

-- ---- an arrival

arrival_sound : (a : Arrival) (n : Net) (i : ℕ) (s : State) (p : PacketFields) (turn : ImpTurn) → IsBrought n i s p turn → ArrivalSays a s p → ArrivalMoves a p s turn.state → OnlyNew n (told_for a p) (with_turn i turn n)
    → IsSound n → IsSound (with_turn i turn n)
arrival_sound Passing n i s p turn b says moves only is = silent_arrival n i s p turn b moves only is
arrival_sound Old n i s p turn b says moves only is = silent_arrival n i s p turn b moves only is
arrival_sound (Undeliverable new told) n i s p turn b says moves only is = undeliverable_sound n i s p turn new told says.1 b says.0 moves only is
arrival_sound (Replying told) n i s p turn b says moves only is = replying_sound n i s p turn told b says moves only is
arrival_sound Piece n i s p turn b says moves only is = silent_arrival n i s p turn b moves only is
arrival_sound NoSlot n i s p turn b says moves only is = silent_arrival n i s p turn b moves only is
arrival_sound (arrivals.Whole text) n i s p turn b says moves only is = whole_sound n i s p turn says.0 text b says.1 says.3 moves only is
arrival_sound Unmarked n i s p turn b says moves only is =
    noted_sound n i s p turn [] _ tt b says.1.new moves only (All-nil (λ (q : PacketFields). flow_of q ≡ flow_of p)) (All-nil IsPacket) (All-nil (λ (q : PacketFields). IsRefusal p.number (packet_of q))) is
arrival_sound (Answering k) n i s p turn b says moves only is = by (release_in p.number (finite.get s.sources (flow_of p))) refl moves where
  by : (r : Release) → release_in p.number (finite.get s.sources (flow_of p)) ≡ r → AnswerMoves r k (flow_of p) s turn.state → IsSound (with_turn i turn n)
  by release.Freed frees moved = answered_sound n i s p turn k b says.0 says.1 frees moved only is
  by release.Stale stale still = silent_arrival n i s p turn b still only is

-- a turn that moves no flow reports that a message wasn't taken only if its number was noted, so nothing was noted anew
still_sound : (a : Arrival) (k : ℕ) (f : Frame) (n : Net) (i : ℕ) (s : State) (p : PacketFields) → (let turn : ImpTurn = pump (acknowledged k (frame_taken k f s)) (arrived a p (frame_taken k f s)) in
    IsBrought n i s p turn → ArrivalSays a s p → AllUnmoved s turn.state → OnlyNew n (told_for a p) (with_turn i turn n) → IsSound n → IsSound (with_turn i turn n))
still_sound Passing k f n i s p b says still only is = silent_arrival n i s p _ b still only is
still_sound Old k f n i s p b says still only is = silent_arrival n i s p _ b still only is
still_sound (Undeliverable new told) k f n i s p b says still only is =
    let turn : ImpTurn = pump (acknowledged k (frame_taken k f s)) (arrived (Undeliverable new told) p (frame_taken k f s)) in
    let g : Flow = flow_of p in
    let moved : Moved s turn.state g (sender s g) (noted_with p.number new (receiver s g)) = record { sender = (still g).sender; receiver = (noted_moved g p.number new s).receiver; others = λ f other. still f } in
    undeliverable_sound n i s p turn new told says.1 b says.0 moved only is
still_sound (Replying told) k f n i s p b says still only is = replying_sound n i s p _ told b says still only is
still_sound Piece k f n i s p b says still only is = silent_arrival n i s p _ b still only is
still_sound NoSlot k f n i s p b says still only is = silent_arrival n i s p _ b still only is
still_sound (arrivals.Whole text) k f n i s p b says still only is = silent_arrival n i s p _ b still only is
still_sound Unmarked k f n i s p b says still only is = silent_arrival n i s p _ b still only is
still_sound (Answering x) k f n i s p b says still only is = silent_arrival n i s p _ b still only is

-- ---- a frame

-- what is known of the turn of a frame that is live
record IsFrame (n : Net) (i : ℕ) (s : State) (f : Frame) (turn : ImpTurn) : Type 0 where
  pub new : IsImp i turn.state
  pub moves : FrameMoves f s turn.state
  pub only : OnlyNew n (told_made f s) (with_turn i turn n)

-- and of the IMP to which it comes
record IsLive (n : Net) (i : ℕ) (s : State) (f : Frame) : Type 0 where
  pub at : imp_at n.imps i ≡ Some s
  pub old : IsImp i s
  pub there : FrameHas (Contains (packets n)) f
  pub sound : IsSound n

-- a turn that only takes acknowledgements and distances, and pumps
quiet_frame : (n : Net) (i : ℕ) (s : State) (f : Frame) (turn : ImpTurn) → IsLive n i s f → IsFrame n i s f turn → AllUnmoved s turn.state → contents.messages turn.state ≡ contents.messages s
    → (Has (Contains (packets n)) s → TurnHas (Contains (packets n)) turn) → IsSound (with_turn i turn n)
quiet_frame n i s f turn live frame still same has =
    silent_turn n i s turn live.at still frame.new (subst (All Answerable) (sym same) (answerable n i s live.at live.sound)) (turn_nothing n i s turn live.at has) live.sound

fresh_sound : (n : Net) (i : ℕ) (s : State) (k : ℕ) (f : Frame) (p : PacketFields) → carried_by f.content ≡ p ∷ [] → IsLive n i s f → (let turn : ImpTurn = pump (acknowledged k (frame_taken k f s)) (arrived (arrival s p) p (frame_taken k f s)) in
    IsFrame n i s f turn → IsSound (with_turn i turn n))
fresh_sound n i s k f p carried live frame =
    let turn : ImpTurn = pump (acknowledged k (frame_taken k f s)) (arrived (arrival s p) p (frame_taken k f s)) in
    let all : All (Contains (packets n)) (p ∷ []) = subst (All (Contains (packets n))) carried (frame_packets _ f live.there) in
    let there : Contains (packets n) p = All-head (Contains (packets n)) p [] all in
    let format : IsPacket p = All-contains IsPacket (packets n) p live.sound.formats there in
    let brought : IsBrought n i s p turn = record {
      at = live.at;
      old = live.old;
      new = frame.new;
      there = there;
      format = format;
      answers = arrived_answers (arrival s p) p (frame_taken k f s) format (answerable n i s live.at live.sound);
    } in
    let more : OnlyNew n (told_for (arrival s p) p ++ []) (with_turn i turn n) = subst (λ (ps : List PacketFields). OnlyNew n (flat_map (λ (q : PacketFields). told_for (arrival s q) q) ps) (with_turn i turn n)) carried frame.only in
    let only : OnlyNew n (told_for (arrival s p) p) (with_turn i turn n) = subst (λ (ps : List PacketFields). OnlyNew n ps (with_turn i turn n)) (append-nil (told_for (arrival s p) p)) more in
    elim frame.moves [
      | inl still ↦ still_sound (arrival s p) k f n i s p brought (arrival_says s p) still only live.sound
      | inr (q, of, moves) ↦ (let same : q ≡ p = first (sym of ∙ carried) in
          arrival_sound _ n i s p turn brought (arrival_says s p) (subst (λ (r : PacketFields). ArrivalMoves (arrival s r) r s turn.state) same moves) only live.sound)
    ]
  where
    first : {q r : PacketFields} → (q ∷ []) ≡ (r ∷ []) → q ≡ r
    first e = cc

ignored_sound : (n : Net) (i : ℕ) (s : State) (f : Frame) → IsLive n i s f → IsFrame n i s f (ignored s) → IsSound (with_turn i (ignored s) n)
ignored_sound n i s f live frame =
    quiet_frame n i s f _ live frame (λ g. record { sender = refl; receiver = refl }) refl (λ has. record { state = has; frames = All-nil (OutgoingHas (Contains (packets n))) })

frame_sound : (got : Result Received ChannelFault) (n : Net) (i : ℕ) (s : State) (k : ℕ) (f : Frame) → ((p : PacketFields) → got ≡ Ok (received.Fresh p) → carried_by f.content ≡ p ∷ [])
    → IsLive n i s f → IsFrame n i s f (taken_frame got k f s) → IsSound (with_turn i (taken_frame got k f s) n)
frame_sound (Ok (received.Fresh p)) n i s k f carried live frame = at (arrival_has_room (arrival s p) s p) frame where
  at : (room : Bool) → IsFrame n i s f (cond room (pump (acknowledged k (frame_taken k f s)) (arrived (arrival s p) p (frame_taken k f s))) (ignored s))
      → IsSound (with_turn i (cond room (pump (acknowledged k (frame_taken k f s)) (arrived (arrival s p) p (frame_taken k f s))) (ignored s)) n)
  at true frame = fresh_sound n i s k f p (carried p refl) live frame
  at false frame = ignored_sound n i s f live frame
frame_sound (Ok received.Repeat) n i s k f carried live frame =
    let P : PacketFields → Type 0 = Contains (packets n) in
    quiet_frame n i s f _ live frame (λ g. record { sender = refl; receiver = refl }) refl
    (λ has. pump_has P (acknowledged k (frame_taken k f s)) (frame_taken k f s) (All-cons (OutgoingHas P) _ [] tt (All-nil (OutgoingHas P))) (taken_has P k f s has))
frame_sound (Ok received.AckOnly) n i s k f carried live frame =
    let P : PacketFields → Type 0 = Contains (packets n) in
    quiet_frame n i s f _ live frame (λ g. record { sender = refl; receiver = refl }) refl (λ has. quiet_has P (frame_taken k f s) (taken_has P k f s has))
frame_sound (Ok (received.Routes distances)) n i s k f carried live frame =
    let P : PacketFields → Type 0 = Contains (packets n) in
    quiet_frame n i s f _ live frame (λ g. record { sender = refl; receiver = refl }) refl
    (λ has. (let got : Has P (frame_taken k f s) = taken_has P k f s has in quiet_has P _ (record { store = got.store; lines = got.lines; slots = got.slots })))
frame_sound (Err fault) n i s k f carried live frame = ignored_sound n i s f live frame

line_sound : (n : Net) (i : ℕ) (s : State) (k : ℕ) (f : Frame) → IsLive n i s f → IsSound (with_turn i (from_line s k f) n)
line_sound n i s k f live =
    let Held : PacketFields → Type 0 = Contains (packets n) in
    let carried : All Held (carried_by f.content) = frame_packets Held f live.there in
    let formats : All IsPacket (carried_by f.content) = All-weaker Held IsPacket (λ p there. All-contains IsPacket (packets n) p live.sound.formats there) (carried_by f.content) carried in
    let Grown : PacketFields → Type 0 = Contains (packets n ++ told_made f s) in
    let got : FrameHas Grown f = content_has Grown _ (All-weaker Held Grown (λ p there. Contains-append_left (packets n) (told_made f s) p there) (carried_by f.content) carried) in
    at (port_at s.ports k).up (record {
      new = from_line_imp i s k f formats live.old;
      moves = from_line_moves s k f;
      only = turn_only n i s _ _ live.at (λ has dead. from_line_has Grown s k f has (brings Grown s f got dead));
    })
  where
    at : (up : Bool) → IsFrame n i s f (cond up (taken_frame (answer_to (port_at s.ports k).line f) k f s) (ignored s))
        → IsSound (with_turn i (cond up (taken_frame (answer_to (port_at s.ports k).line f) k f s) (ignored s)) n)
    at true frame = frame_sound (answer_to (port_at s.ports k).line f) n i s k f (λ p is. fresh_carried (port_at s.ports k).line f p is) live frame
    at false frame = ignored_sound n i s f live frame

-- ---- the event

pub deliver_sound : (n : Net) (l : ℕ) (d : Direction) (k : ℕ) → IsSound n → IsSound (deliver n l d k)
deliver_sound n l d k is = by (slice_get (frames_on d (wire_at n.lines l)) k) (got_has Held _ k (way_holds _ d _ (wire_holds _ _ l (net_itself n).lines))) where
  Held : PacketFields → Type 0
  Held = Contains (packets n)

  at : (f : Frame) → FrameHas Held f → (o : Option State) → imp_at n.imps (far_end d (wire_at n.lines l)) ≡ o
      → IsSound (at_imp o (far_end d (wire_at n.lines l)) (λ s. from_line s (port_of n.lines (far_end d (wire_at n.lines l)) l) f) n)
  at f has None here = is
  at f has (Some s) here =
      let i : ℕ = far_end d _ in
      line_sound n i s _ f (record { at = here; old = subst (IsAt i) here (is.imps i); there = has; sound = is })

  by : (o : Option Frame) → GotHas Held o → IsSound (delivered n l d o)
  by None has = is
  by (Some f) has = at f has (imp_at n.imps (far_end d _)) refl
