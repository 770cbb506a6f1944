-- A message is offered.
use Rattle.subnet.proofs.Common.{map-append, All-nil, All-push, All-weaker, All-contains, All-contains_itself, list_any, is_host, Box, box_of, Flow, CarrierFault, Answer, Crossing, HostMessage, Standing, PacketKind, View, Packet, Queued, Message, Told, Sender, Receiver, sender, receiver, answers_of, begun_with, noted_with, queued_with, IsImp, Net, imp_at, with_turn, packets, is_alive, says, OnlyNew, IsCarriable, CanGo, CanGoFrom, IsAt, IsSound}
use Rattle.imp_node.specs.Sides.{told_with}
use Rattle.bit_messages.specs.Body.{body}
use Rattle.std.proofs.Common.{arith, ◌≡◌, ◌≢◌, ℕ, ◌+◌, ◌<◌, ◌≤◌, ◌==◌, ◌||◌, eq-eqb, inl, inr, Bool, true, false, not, List, [], ◌∷◌, ◌++◌, length, Option, Some, None, refl, ap, sym, ◌∙◌, subst, All, Contains}
use Rattle.std.specs.FinMap as finite
use Rattle.std.proofs.lemmas.Option.{same_Some}
use Rattle.interface.specs.Flow.{message_numbers, same_flow}
use Rattle.interface.specs.declared.carrier.CarrierFault.TheVariants as fault
use Rattle.interface.specs.declared.crossing.Answer.TheVariants as answer
use Rattle.interface.specs.declared.crossing.Crossing.TheVariants as crossing
use Rattle.interface.proofs.lemmas.{and_true, guard, not_false, or_false, same_flow-refl, not_true}
use Rattle.link_table.specs.Flows.{last_in, outstanding_in, is_idle_in, number_in, kept_in}
use Rattle.link_table.specs.declared.destination.Fate.TheVariants as fate
use Rattle.link_table.specs.Numbers.{modulus, oldest}
use Rattle.link_table.specs.declared.source.Standing.TheVariants as standing
use Rattle.link_table.proofs.lemmas.{number_begun}
use Rattle.packetiser.specs.PacketFields.{PacketFields, IsPacketHost, IsPiece, Carries, IsPacket, flow_of}
use Rattle.packetiser.specs.Pieces.{piece_count, piece, packets_of, CarriesPieceOf}
use Rattle.packetiser.specs.Slots.{IsPieceFor}
use Rattle.packetiser.specs.declared.packet.PacketKind.TheVariants as kind
use Rattle.packetiser.proofs.lemmas.{body_sized, few_pieces, packets_are, piece_fits}
use Rattle.flow_law.specs.Moves as moves
use Rattle.flow_law.specs.Moves.{Move, DeadNow, Begin, BeginLocal, CanOffer, CanBegin, NumberFree, IsPieceOf, view_moved}
use Rattle.flow_law.proofs.lemmas.{makes_one, out_here}
use Rattle.imp_node.specs.State.{State, number, host_at, is_up}
use Rattle.imp_node.specs.Contents as contents
use Rattle.imp_node.specs.Flows.{answer_packet, given, is_about, is_idle, next_number}
use Rattle.imp_node.specs.Making.{cut_for}
use Rattle.imp_node.specs.Moves.{OfferMoves}
use Rattle.imp_node.specs.Offering.{Way, Nowhere, Here, Away, way_of, way_has_room, is_own, goes, begins, offered, from_host, from_host_refusal}
use Rattle.imp_node.specs.Queries.{last, kept}
use Rattle.imp_node.proofs.lemmas.{from_host_has, from_host_imp, from_host_moves, here_imp}
use Rattle.subnet.specs.Events.{at_imp, at_up, first_of, logging, alive_behind, is_number, is_kept, offer_alive, offer_refusal, offer_out}
use Rattle.subnet.specs.Flows.{Piece, Alive, kind_of, packet_of, queued_of, imp_is_up, sender_at, receiver_at, view_of, view}
use Rattle.subnet.proofs.Moves.GivingUp.{no_packet}
use Rattle.subnet.proofs.Calls.Silence.{not_alive, at_host_all}
use Rattle.subnet.proofs.Moves.Turns.{Answerable, turn_only, alive_or_made, set_queue, answerable, source_changed, destination_changed, destination_same, moved_view, out_crosses, followed_turn}

-- ---- packets by the format

-- an answer that travels
pub answer_format : (k : PacketKind) (f : Flow) (n : ℕ) → Carries k 0 true 0 → IsPacketHost f.source → IsPacketHost f.destination → f.link.0 < 256 → n < message_numbers → IsPacket (answer_packet k f n)
answer_format k f n body source destination link small = record { source = source; destination = destination; link = link; number = small; place = omega arith; body = body }

number_small : (s : State) (f : Flow) → next_number s f < message_numbers
unfolding modulus
number_small s f = number_begun _

-- a piece of a message
piece_format : (m : HostMessage) (n : ℕ) (p : PacketFields) → IsCarriable m → n < message_numbers → IsPieceFor m.flow n p → CarriesPieceOf (body m.text) p → IsPacket p
piece_format m n p can small of carries =
    let w : List Bool = body m.text in
    let fits : IsPiece p.place (p.place + 1 == piece_count w) (length (piece w p.place)) = piece_fits w _ (body_sized m.text can.text) carries.there in
    let few : piece_count w ≤ 8 = few_pieces w (body_sized m.text can.text) in
    let there : p.place < piece_count w = carries.there in
    let here : IsPiece p.place p.last (length p.bits) = rw (carries.flag, carries.same) fits in
    record {
      source = subst (λ (f : Flow). IsPacketHost f.source) (sym of.flow) can.source;
      destination = subst (λ (f : Flow). IsPacketHost f.destination) (sym of.flow) can.destination;
      link = subst (λ (f : Flow). f.link.0 < 256) (sym of.flow) can.link;
      number = subst (λ (k : ℕ). k < message_numbers) (sym of.same_number) small;
      place = omega (arith, few, there);
      body = subst (λ (k : PacketKind). Carries k p.place p.last (length p.bits)) (sym of.data_kind) here;
    }

-- what holds of each packet of a message
pub each_packet : (f : Flow) (n : ℕ) (w : List Bool) (P : PacketFields → Type 0) → ((p : PacketFields) → IsPieceFor f n p → CarriesPieceOf w p → P p) → All P (packets_of f n w)
each_packet f n w P holds =
    let ps : List PacketFields = packets_of f n w in
    let are : All (IsPieceFor f n) ps × All (CarriesPieceOf w) ps = packets_are f n w in
    All-weaker (Contains ps) P (λ p there. holds p (All-contains (IsPieceFor f n) ps p are.0 there) (All-contains (CarriesPieceOf w) ps p are.1 there)) ps (All-contains_itself ps)

-- ---- what is not refused

pub next_is : (o : Option Standing) → number_in o ≡ moves.next_number (last_in o)
next_is None = refl
next_is (Some s) = refl

idle_none : (o : Option Standing) → is_idle_in o ≡ true → outstanding_in o ≡ None
idle_none None idle = refl
idle_none (Some (standing.Idle l)) idle = refl
idle_none (Some (standing.Outstanding l)) idle = absurd (cc)
idle_none (Some (standing.Answered l)) idle = refl

no_answers : (f : Flow) (ts : List Told) → list_any (is_about f) ts ≡ false → answers_of f ts ≡ []
no_answers f [] none = refl
no_answers f (t ∷ ts) none =
    let both : (same_flow f t.flow ≡ false) × (list_any (is_about f) ts ≡ false) = or_false (same_flow f t.flow) _ none in
    rw both.0 (no_answers f ts both.1)

-- the source is up and its flow idle
record IsReady (s : State) (f : Flow) : Type 0 where
  pub own : is_own s f.source ≡ true
  pub up : is_up s f.source.host ≡ true
  pub idle : is_idle s f ≡ true

ready : (s : State) (m : HostMessage) → from_host_refusal s m ≡ None → IsReady s m.flow
ready s m accepted =
    let room : Option CarrierFault = first_of (not (way_has_room (way_of s m.flow) s m)) fault.NoRoom None in
    let blocked : Option CarrierFault = first_of (not (is_idle s m.flow)) fault.Blocked room in
    let down : Option CarrierFault = first_of (not (is_up s _)) fault.IsDown blocked in
    let own : (not (is_own s m.flow.source) ≡ false) × (down ≡ None) = guard _ _ down accepted in
    let up : (not (is_up s m.flow.source.host) ≡ false) × (blocked ≡ None) = guard _ fault.IsDown blocked own.1 in
    let idle : (not (is_idle s m.flow) ≡ false) × (room ≡ None) = guard _ fault.Blocked room up.1 in
    record { own = not_false _ own.0; up = not_false _ up.0; idle = not_false _ idle.0 }

can_offer : (n : Net) (s : State) (g : Flow) → imp_at n.imps g.source.imp ≡ Some s → IsReady s g → CanOffer (view n g)
can_offer n s g at is =
    let both : (is_idle_in (finite.get s.sources g) ≡ true) × (not (list_any (is_about g) (host_at s g.source.host).answers) ≡ true) =
    and_true (is_idle_in (finite.get s.sources g)) (not (list_any (is_about g) (host_at s g.source.host).answers)) is.idle in
    record {
      source = ap (λ (o : Option State). (sender_at o g).source) at ∙ is.up;
      idle = ap (λ (o : Option State). (sender_at o g).outstanding) at ∙ idle_none _ both.0;
      answered = ap (λ (o : Option State). (sender_at o g).answers) at ∙ no_answers g _ (not_true _ both.1);
    }

-- the number that is not kept is another one than the one that is
not_kept : (o : Option State) (g : Flow) (number : ℕ) → says (λ s. is_number (kept s g) number) o ≡ false → kept_in (receiver_at o g).kept ≢ Some number
not_kept None g number none is = absurd (cc)
not_kept (Some s) g number none is = by (kept s g) none is where
  by : (o : Option ℕ) → is_number o number ≡ false → o ≢ Some number
  by None none is = absurd (cc)
  by (Some k) none is = (let same : k ≡ number = cc in let both : true ≡ false = sym (eq-eqb k number same) ∙ none in absurd (cc))

-- what an offer that begins a number may not meet
record IsFree (n : Net) (s : State) (g : Flow) : Type 0 where
  behind : alive_behind n g (last s g) ≡ false
  unkept : is_kept n g (moves.next_number (last s g)) ≡ false

is_free : (n : Net) (s : State) (g : Flow) → IsReady s g → goes (way_of s g) ≡ true → offer_alive n g (Some s) ≡ false → IsFree n s g
is_free n s g is away dead =
    let begins_so : begins s g ≡ true = rw (is.own, is.up, is.idle, away) refl in
    let none : (alive_behind n g (last s g) || is_kept n g (moves.next_number (last s g))) ≡ false = rw begins_so at dead in
    let both : (alive_behind n g (last s g) ≡ false) × (is_kept n g (moves.next_number (last s g)) ≡ false) = or_false (alive_behind n g (last s g)) _ none in
    record { behind = both.0; unkept = both.1 }

-- nothing is alive that would be too old
number_free : (n : Net) (s : State) (g : Flow) → imp_at n.imps g.source.imp ≡ Some s → alive_behind n g (last s g) ≡ false → NumberFree (view n g) (Alive n g)
number_free n s g at behind l lasts x alive =
    let was : last s g ≡ Some l = sym (ap (λ (o : Option State). (sender_at o g).last) at) ∙ lasts in
    let gone : is_alive n g (oldest l) ≡ false = rw was at behind in
    no_packet n g _ (not_alive n g _ gone).0 x alive

can_begin : (n : Net) (s : State) (g : Flow) → imp_at n.imps g.source.imp ≡ Some s → IsReady s g → goes (way_of s g) ≡ true → offer_alive n g (Some s) ≡ false → CanBegin (view n g) (Alive n g)
can_begin n s g at is away dead =
    let free : IsFree n s g = is_free n s g is away dead in
    let was : last s g ≡ (view n g).last = sym (ap (λ (o : Option State). (sender_at o g).last) at) in
    record {
      offer = can_offer n s g at is;
      free = number_free n s g at free.behind;
      unkept = not_kept _ g _ (ap (λ (l : Option ℕ). is_kept n g (moves.next_number l)) (sym was) ∙ free.unkept);
    }

-- ---- what waits after it

offered_answers : (way : Way) (m : HostMessage) (s : State) → CanGo way m → All Answerable (contents.messages s) → All Answerable (contents.messages (offered way m s))
offered_answers Nowhere m s can all =
    set_queue Answerable s.hosts m.flow.source.host (given (host_at s m.flow.source.host) (record { kind = answer.Dead; flow = m.flow })) all (at_host_all Answerable s.hosts m.flow.source.host all)
offered_answers Here m s can all =
    let h : ℕ = m.flow.destination.host in
    let q : Message = record { flow = m.flow; number = next_number s m.flow; text = m.text } in
    set_queue Answerable _ h _ all
    (All-push Answerable (host_at s h).queue q (at_host_all Answerable _ h all)
    (answer_format _ m.flow _ (record { first = refl; only = refl; empty = refl }) can.source can.destination can.link (number_small s m.flow)))
offered_answers Away m s can all = all

-- a question about the message that was begun is a packet by the format
begun_format : (m : HostMessage) (s : State) → IsCarriable m → (number : ℕ) → next_number s m.flow ≡ number → IsPacket (answer_packet kind.Rfnm m.flow number)
begun_format m s can number same =
    answer_format _ m.flow number (record { first = refl; only = refl; empty = refl }) can.source can.destination can.link (subst (λ (k : ℕ). k < message_numbers) same (number_small s m.flow))

-- ---- the event, by where the message goes

-- what is known of an offer that is not refused
record IsOffered (n : Net) (s : State) (m : HostMessage) : Type 0 where
  pub at : imp_at n.imps m.flow.source.imp ≡ Some s
  pub ready : IsReady s m.flow
  pub accepted : from_host_refusal s m ≡ None
  pub dead : offer_alive n m.flow (Some s) ≡ false
  pub imp : IsImp m.flow.source.imp s

box_put : (m : HostMessage) (log : List Crossing) → box_of m.flow (crossing.Out m ∷ log) ≡ Box.Waiting (length log) m.text
box_put m log = rw (same_flow-refl m.flow) refl

offer_only : (n : Net) (i : ℕ) (s : State) (m : HostMessage) (way : Way) → imp_at n.imps i ≡ Some s → way_of s m.flow ≡ way → OnlyNew n (cut_for way s m) (with_turn i (from_host s m) n)
offer_only n i s m way at is =
    turn_only n i s _ _ at
    (λ has made. from_host_has (Contains (packets n ++ cut_for way s m)) s m has (subst (λ (w : Way). All (Contains (packets n ++ cut_for way s m)) (cut_for w s m)) (sym is) made))

offer_answers : (n : Net) (s : State) (m : HostMessage) (way : Way) → imp_at n.imps m.flow.source.imp ≡ Some s → way_of s m.flow ≡ way → CanGo way m → IsSound n → All Answerable (contents.messages (from_host s m).state)
offer_answers n s m way at is can sound =
    subst (λ (w : Way). All Answerable (contents.messages (offered w m s))) (sym is) (offered_answers way m s can (answerable n _ s at sound))

told_alone : (k : Answer) (f : Sender) → f.source ≡ true → f.answers ≡ [] → told_with k f ≡ record f { answers = k ∷ [] }
told_alone k f up none = rw (up, none) refl

to_nowhere : (n : Net) (s : State) (m : HostMessage) → IsOffered n s m → way_of s m.flow ≡ Nowhere → OfferMoves Nowhere m s (from_host s m).state → IsSound n → IsSound (logging (crossing.Out m ∷ []) (with_turn m.flow.source.imp (from_host s m) n))
to_nowhere n s m o is moved sound =
    let g : Flow = m.flow in
    let i : ℕ = g.source.imp in
    let entries : List Crossing = crossing.Out m ∷ [] in
    let move : Move = DeadNow (length n.log) m.text in
    let next : Net = logging entries (with_turn i (from_host s m) n) in
    let can : CanOffer (view n g) = can_offer n s g o.at o.ready in
    let change : Sender → Sender = λ f. record f { answers = answer.Dead ∷ [] } in
    let from : sender (from_host s m).state g ≡ change (sender s g) =
    moved.sender ∙ told_alone _ _ o.ready.up (sym (ap (λ (p : Option State). (sender_at p g).answers) o.at) ∙ can.answered) in
    let only : OnlyNew n [] (with_turn i (from_host s m) n) = offer_only n i s m Nowhere o.at is in
    followed_turn n i s (from_host s m) entries g _ [] (record {
      at = o.at;
      sound = from_host_imp i s m o.accepted o.imp;
      others = moved.others;
      crossings = out_crosses _ m n.log;
      only = only;
      of_flow = All-nil (λ (p : PacketFields). flow_of p ≡ g);
      formats = All-nil IsPacket;
      answers = offer_answers n s m Nowhere o.at is tt sound;
      here =
          makes_one move _ _ _ _ can
          (moved_view n i s (from_host s m) entries g _ _ _ o.at
          (source_changed change n.imps i s _ g o.at refl from)
          (destination_same n.imps i s _ g o.at moved.receiver)
          (box_put m n.log))
          (λ x. alive_or_made n next [] (λ (y : Packet). ⊥) g x only (All-nil (λ (p : PacketFields). ⊥)));
      shown = out_here m n.log;
      begun = inl refl;
    }) sound

-- the number of the next message, as its flow sees it
next_same : (n : Net) (s : State) (g : Flow) → imp_at n.imps g.source.imp ≡ Some s → next_number s g ≡ moves.next_number (view n g).last
next_same n s g at = next_is _ ∙ ap moves.next_number (sym (ap (λ (o : Option State). (sender_at o g).last) at))

over_lines : (n : Net) (s : State) (m : HostMessage) → IsOffered n s m → way_of s m.flow ≡ Away → IsCarriable m → OfferMoves Away m s (from_host s m).state → IsSound n → IsSound (logging (crossing.Out m ∷ []) (with_turn m.flow.source.imp (from_host s m) n))
over_lines n s m o is carriable moved sound =
    let g : Flow = m.flow in
    let i : ℕ = g.source.imp in
    let w : List Bool = body m.text in
    let entries : List Crossing = crossing.Out m ∷ [] in
    let move : Move = Begin (length n.log) m.text in
    let next : Net = logging entries (with_turn i (from_host s m) n) in
    let k : ℕ = moves.next_number (view n g).last in
    let same : next_number s g ≡ k = next_same n s g o.at in
    let made : List PacketFields = packets_of g (next_number s g) w in
    let only : OnlyNew n made (with_turn i (from_host s m) n) = offer_only n i s m Away o.at is in
    let pieces : All (λ (p : PacketFields). IsPieceOf Piece k m.text (packet_of p)) made =
    each_packet g _ w (λ p. IsPieceOf Piece k m.text (packet_of p)) (λ p of carries. record { data_packet = ap kind_of of.data_kind; number = of.same_number ∙ same; piece = record { there = carries.there; flag = carries.flag; same = carries.same } }) in
    let new : view next g ≡ view_moved move (view n g) =
    moved_view n i s (from_host s m) entries g _ _ _ o.at
    (source_changed (begun_with k) n.imps i s _ g o.at refl (moved.sender ∙ ap (λ (j : ℕ). begun_with j (sender s g)) same))
    (destination_same n.imps i s _ g o.at moved.receiver)
    (box_put m n.log) in
    followed_turn n i s (from_host s m) entries g _ made (record {
      at = o.at;
      sound = from_host_imp i s m o.accepted o.imp;
      others = moved.others;
      crossings = out_crosses _ m n.log;
      only = only;
      of_flow = each_packet g _ w _ (λ p of carries. of.flow);
      formats = each_packet g _ w IsPacket (λ p of carries. piece_format m (next_number s g) p carriable (number_small s g) of carries);
      answers = offer_answers n s m Away o.at is carriable sound;
      here =
          makes_one move _ _ _ _
          (can_begin n s g o.at o.ready (ap goes is) o.dead)
          new
          (λ x. alive_or_made n next made (IsPieceOf Piece k m.text) g x only pieces);
      shown = out_here m n.log;
      begun = inr (λ number awaited. begun_format m s carriable number (same ∙ same_Some k number (ap (λ (v : View). v.outstanding) (sym new) ∙ awaited)));
    }) sound

within : (n : Net) (s : State) (m : HostMessage) → IsOffered n s m → way_of s m.flow ≡ Here → IsCarriable m → OfferMoves Here m s (from_host s m).state → IsSound n → IsSound (logging (crossing.Out m ∷ []) (with_turn m.flow.source.imp (from_host s m) n))
within n s m o is carriable moved sound =
    let g : Flow = m.flow in
    let i : ℕ = g.source.imp in
    let entries : List Crossing = crossing.Out m ∷ [] in
    let move : Move = BeginLocal (length n.log) m.text in
    let next : Net = logging entries (with_turn i (from_host s m) n) in
    let k : ℕ = moves.next_number (view n g).last in
    let same : next_number s g ≡ k = next_same n s g o.at in
    let message : ℕ → Message = λ j. record { flow = g; number = j; text = m.text } in
    let from : Sender = sender_at (imp_at n.imps i) g in
    let to : Receiver = receiver_at (imp_at n.imps g.destination.imp) g in
    let here : g.destination.imp ≡ i = here_imp s g is ∙ o.imp.own in
    let only : OnlyNew n [] (with_turn i (from_host s m) n) = offer_only n i s m Here o.at is in
    let waits : view next g ≡ view_of (imp_is_up (imp_at n.imps i)) (begun_with k from) (imp_is_up (imp_at n.imps g.destination.imp)) (queued_with (message k) (noted_with k fate.Waits to)) (Box.Waiting (length n.log) m.text) =
    moved_view n i s (from_host s m) entries g _ _ _ o.at
    (source_changed (begun_with k) n.imps i s _ g o.at refl (moved.sender ∙ ap (λ (j : ℕ). begun_with j (sender s g)) same))
    (destination_changed (λ (r : Receiver). queued_with (message k) (noted_with k fate.Waits r)) n.imps i s _ g o.at here (moved.receiver ∙ ap (λ (j : ℕ). queued_with (message j) (noted_with j fate.Waits (receiver s g))) same))
    (box_put m n.log) in
    followed_turn n i s (from_host s m) entries g _ [] (record {
      at = o.at;
      sound = from_host_imp i s m o.accepted o.imp;
      others = moved.others;
      crossings = out_crosses _ m n.log;
      only = only;
      of_flow = All-nil (λ (p : PacketFields). flow_of p ≡ g);
      formats = All-nil IsPacket;
      answers = offer_answers n s m Here o.at is carriable sound;
      here =
          makes_one move _ _ _ _
          (can_begin n s g o.at o.ready (ap goes is) o.dead)
          (waits ∙ ap (λ (q : List Queued). (let v : View = record (view_moved move (view n g)) { queue = q } in v)) (map-append queued_of to.queue (message k ∷ [])))
          (λ x. alive_or_made n next [] (λ (y : Packet). ⊥) g x only (All-nil (λ (p : PacketFields). ⊥)));
      shown = out_here m n.log;
      begun = inr (λ number awaited. begun_format m s carriable number (same ∙ same_Some k number (ap (λ (v : View). v.outstanding) (sym waits) ∙ awaited)));
    }) sound

-- ---- the event

pub offer_sound : (n : Net) (m : HostMessage) → CanGoFrom (imp_at n.imps m.flow.source.imp) m → offer_refusal n m ≡ None → IsSound n → IsSound (offer_out n m)
offer_sound n m can accepted sound =
    let i : ℕ = m.flow.source.imp in
    let last : Option CarrierFault = at_up (imp_at n.imps i) (λ s. from_host_refusal s m) in
    let alive : Bool = offer_alive n m.flow (imp_at n.imps i) in
    let there : (not (is_host n.hosts m.flow.source) ≡ false) × (first_of alive fault.StillAlive last ≡ None) = guard _ _ _ accepted in
    let dead : (alive ≡ false) × (last ≡ None) = guard alive _ last there.1 in
    by (imp_at n.imps i) refl can dead.0 dead.1
  where
    goes_by : (s : State) → IsOffered n s m → (way : Way) → way_of s m.flow ≡ way → CanGo way m → OfferMoves way m s (from_host s m).state → IsSound (logging (crossing.Out m ∷ []) (with_turn m.flow.source.imp (from_host s m) n))
    goes_by s o Nowhere is can moved = to_nowhere n s m o is moved sound
    goes_by s o Here is can moved = within n s m o is can moved sound
    goes_by s o Away is can moved = over_lines n s m o is can moved sound

    by : (o : Option State) → imp_at n.imps m.flow.source.imp ≡ o → CanGoFrom o m → offer_alive n m.flow o ≡ false → at_up o (λ s. from_host_refusal s m) ≡ None → IsSound (logging (crossing.Out m ∷ []) (at_imp o m.flow.source.imp (λ s. from_host s m) n))
    by None at can dead own = absurd (cc)
    by (Some s) at can dead own =
        goes_by s (record { at = at; ready = ready s m own; accepted = own; dead = dead; imp = subst (IsAt m.flow.source.imp) at (sound.imps m.flow.source.imp) }) (way_of s m.flow) refl can (from_host_moves s m)
