-- Texts of frames, hosts, ports and slots are closed, and no two alike.
use Rattle.subnet_trace.proofs.Common.{nat_tests, All-cons, All-head, All-nil, All-tail, All-weaker, decimal, All, PacketFields, Table, next_of, Carriage, Content, Frame, Port, array, bool_text, member, quoted}
use Rattle.std.proofs.Common.{◌≡◌, ℕ, suc, ◌+◌, ◌<◌, ◌≤◌, nat_lt, Bool, true, false, List, [], ◌∷◌, ◌++◌, codes, if◌then◌else◌, length, map, Option, Some, None, refl, sym, ap, ap₂, ◌∙◌, arith, subst, lit<, append_assoc}
use Rattle.packetiser.specs.Slots.{SlotState}
use Rattle.routing.specs.Vector.{infinite, IsVector}
use Rattle.imp_node.specs.State.{HostState}
use Rattle.trace.proofs.lemmas.{AreClosed, IsClosed, Spelled, also_closed, decimal_closed, first_same, lists_spelled, member_once, none_closed, object_closed, object_once, rest_same, short_once, decimal_lacks, member_closed}
use Rattle.subnet_trace.specs.Texts.{bits_text, channel_text, content_members, distances_text, finite_from, frame_text, heard_text, host_object, next_from, next_members, packet_text, port_object, slot_text, told_text, whole_text}
use Rattle.subnet_trace.specs.Told.{IsAnswerTold, IsChannelTold, IsContentTold, IsFrameTold, IsHeardTold, IsHostTold, IsMessageTold, IsPacketTold, IsPieceTold, IsPortTold, IsSlotTold}
use Rattle.imp_channel.specs.declared.frame.Content.TheVariants as content
use Rattle.script.proofs.lemmas.{SameCut, same_cut}
use Rattle.trace.specs.Named.{IsShort}
use Rattle.subnet_trace.proofs.Spelling.{bit_spelled, bits_spelled, bool_spelled, channel_spelled, packet_spelled, told_spelled, whole_spelled, word_closed}
use Rattle.subnet_trace.proofs.Spelling.{none_left}

pub null_closed : IsClosed (codes "null")
null_closed = word_closed 110 _ refl

-- ---- distances

named : (name value : List ℕ) → member name value ≡ 34 ∷ (name ++ 34 ∷ 58 ∷ value)
named name value = ap (λ zs. 34 ∷ zs) (append_assoc name (34 ∷ []) (58 ∷ value))

-- members of two numbers have two names
apart : (i k : ℕ) (v w : List ℕ) → i < k → IsShort k → member (decimal k) w ≡ member (decimal i) v → ⊥
apart i k v w less small e =
    let low : IsShort i = omega (arith, less, small) in
    let cut : SameCut (decimal k) (58 ∷ w) (decimal i) (58 ∷ v) = same_cut 34 (decimal k) (58 ∷ w) (decimal i) (58 ∷ v) (decimal_lacks 34 k (lit< tt)) (decimal_lacks 34 i (lit< tt)) (rest_same (sym (named _ w) ∙ e ∙ named _ v)) in
    let same : k ≡ i = short_once k i small low cut.front in
    absurd (omega (arith, less, same))

abbrev one_from : Bool → ℕ → ℕ → List (List ℕ)
one_from finite i d = if finite then member (decimal i) (decimal d) ∷ [] else []

later : (i k : ℕ) (v : List ℕ) (ds : List ℕ) (others : List (List ℕ)) → i < k → IsShort (k + length ds) → finite_from k ds ≡ member (decimal i) v ∷ others → ⊥
later i k v [] others less small e = none_left e
later i k v (d ∷ ds) others less small e = by (λ k. later i (suc k) v ds others) (nat_lt d infinite) e where
  by : ((j : ℕ) → i < suc j → IsShort (suc j + length ds) → finite_from (suc j) ds ≡ member (decimal i) v ∷ others → ⊥) → (finite : Bool) → one_from finite k d ++ finite_from (k + 1) ds ≡ member (decimal i) v ∷ others → ⊥
  by more true h = apart i k v (decimal d) less (omega (arith, small)) (first_same h)
  by more false h = more k (omega (arith, less)) (omega (arith, small)) (ap (λ (j : ℕ). finite_from j ds) (omega arith) ∙ h)

past : (d : ℕ) → nat_lt d infinite ≡ false → d ≤ infinite → d ≡ infinite
past d h most = grind (arith, nat_tests)

finite_once : (i : ℕ) (ds es : List ℕ) → length ds ≡ length es → All (λ d. d ≤ infinite) ds → All (λ d. d ≤ infinite) es → IsShort (i + length ds) → finite_from i ds ≡ finite_from i es → ds ≡ es
finite_once i [] [] long p q small e = refl
finite_once i [] (y ∷ es) long p q small e = absurd (omega (arith, long))
finite_once i (x ∷ ds) [] long p q small e = absurd (omega (arith, long))
finite_once i (x ∷ ds) (y ∷ es) long p q small e =
    by (λ h. finite_once (i + 1) ds es (omega (arith, long)) (All-tail P x ds p) (All-tail P y es q) (omega (arith, small)) h) (nat_lt x infinite) refl (nat_lt y infinite) refl e
  where
    P : ℕ → Type 0
    P d = d ≤ infinite

    here : x ≡ y → ds ≡ es → x ∷ ds ≡ y ∷ es
    here a b = ap₂ (λ (z : ℕ) (zs : List ℕ). z ∷ zs) a b

    shifted : IsShort (suc i + length es)
    shifted = omega (arith, small, long)

    by : (finite_from (i + 1) ds ≡ finite_from (i + 1) es → ds ≡ es) → (b : Bool) → nat_lt x infinite ≡ b → (c : Bool) → nat_lt y infinite ≡ c → one_from b i x ++ finite_from (i + 1) ds ≡ one_from c i y ++ finite_from (i + 1) es → x ∷ ds ≡ y ∷ es
    by more true f true g h =
        let value : decimal x ≡ decimal y = member_once _ _ _ (first_same h) in
        here (short_once x y (omega (arith, All-head P x ds p)) (omega (arith, All-head P y es q)) value) (more (rest_same h))
    by more true f false g h = absurd (later i (i + 1) (decimal x) es (finite_from (i + 1) ds) (omega arith) (omega (arith, shifted)) (sym h))
    by more false f true g h = absurd (later i (i + 1) (decimal y) ds (finite_from (i + 1) es) (omega arith) (omega (arith, small)) h)
    by more false f false g h = here (past x f (All-head P x ds p) ∙ sym (past y g (All-head P y es q))) (more h)

pub finite_closed : (i : ℕ) (ds : List ℕ) → All IsClosed (finite_from i ds)
finite_closed i [] = All-nil IsClosed
finite_closed i (d ∷ ds) = by (finite_closed (i + 1) ds) (nat_lt d infinite) where
  by : All IsClosed (finite_from (i + 1) ds) → (finite : Bool) → All IsClosed (one_from finite i d ++ finite_from (i + 1) ds)
  by more true = All-cons IsClosed (member (decimal i) (decimal d)) (finite_from (i + 1) ds) (member_closed _ _ (decimal_lacks 34 i (lit< tt)) (decimal_closed d)) more
  by more false = more

pub distances_spelled : Spelled distances_text IsVector
distances_spelled = record {
  closed = λ ds is. object_closed (finite_from 1 ds) (finite_closed 1 ds);
  once = λ ds es p q e. finite_once 1 ds es (p.one_each ∙ sym q.one_each) p.in_range q.in_range (omega (arith, p.one_each))
      (object_once _ _ (finite_closed 1 ds) (finite_closed 1 es) e);
}

heard_closed : (o : Option (List ℕ)) → IsHeardTold o → IsClosed (heard_text o)
heard_closed None is = null_closed
heard_closed (Some ds) is = distances_spelled.closed ds is

pub not_null : (r : List ℕ) → codes "null" ≡ 123 ∷ r → ⊥
not_null r e = let bad : 110 ≡ 123 = first_same e in absurd (omega (arith, bad))

heard_once : (o r : Option (List ℕ)) → IsHeardTold o → IsHeardTold r → heard_text o ≡ heard_text r → o ≡ r
heard_once None None p q e = refl
heard_once None (Some es) p q e = absurd (not_null _ e)
heard_once (Some ds) None p q e = absurd (not_null _ (sym e))
heard_once (Some ds) (Some es) p q e = ap (λ (zs : List ℕ). Some zs) (distances_spelled.once ds es p q e)

pub heard_spelled : Spelled heard_text IsHeardTold
heard_spelled = record { closed = heard_closed; once = heard_once }

-- ---- ports to IMPs

next_closed : (t : Table) (imps : List ℕ) → All IsClosed (next_from t imps)
next_closed t [] = All-nil IsClosed
next_closed t (imp ∷ imps) = by (next_closed t imps) (next_of t imp) where
  by : All IsClosed (next_from t imps) → (o : Option ℕ) → All IsClosed (next_members imp o ++ next_from t imps)
  by more None = more
  by more (Some port) = All-cons IsClosed (member (decimal imp) (decimal port)) (next_from t imps) (member_closed _ _ (decimal_lacks 34 imp (lit< tt)) (decimal_closed port)) more

pub ports_closed : (t : Table) (imps : List ℕ) → AreClosed (next_from t imps)
ports_closed t imps = record { all = next_closed t imps }

-- ---- frames

content_closed : (c : Content) → IsContentTold c → AreClosed (content_members c)
content_closed (content.Packet carried) is =
    also_closed (codes "channel") refl (decimal_closed carried.channel)
    (also_closed (codes "bit") refl (bit_spelled.closed carried.bit tt)
    (also_closed (codes "packet") refl (packet_spelled.closed carried.packet is.packet) none_closed))
content_closed content.Nothing is = none_closed
content_closed (content.Routes distances) is = also_closed (codes "routes") refl (distances_spelled.closed distances is) none_closed

carriage_once : (c d : Carriage) → IsContentTold (content.Packet c) → IsContentTold (content.Packet d) → content_members (content.Packet c) ≡ content_members (content.Packet d) → c ≡ d
carriage_once c d p q e =
    let channel : c.channel ≡ d.channel = short_once _ _ p.channel q.channel (member_once (codes "channel") _ _ (first_same e)) in
    let bit : c.bit ≡ d.bit = bit_spelled.once c.bit d.bit tt tt (member_once (codes "bit") _ _ (first_same (rest_same e))) in
    let packet : c.packet ≡ d.packet = packet_spelled.once c.packet d.packet p.packet q.packet (member_once (codes "packet") _ _ (first_same (rest_same (rest_same e)))) in
    λ i. record { channel = channel i; bit = bit i; packet = packet i }

content_once : (c d : Content) → IsContentTold c → IsContentTold d → content_members c ≡ content_members d → c ≡ d
content_once (content.Packet c) (content.Packet d) p q e = ap (λ (x : Carriage). content.Packet x) (carriage_once c d p q e)
content_once (content.Packet c) content.Nothing p q e = absurd (none_left (sym e))
content_once (content.Packet c) (content.Routes es) p q e = absurd (none_left (sym (rest_same e)))
content_once content.Nothing (content.Packet d) p q e = absurd (none_left e)
content_once content.Nothing content.Nothing p q e = refl
content_once content.Nothing (content.Routes es) p q e = absurd (none_left e)
content_once (content.Routes ds) (content.Packet d) p q e = absurd (none_left (rest_same e))
content_once (content.Routes ds) content.Nothing p q e = absurd (none_left (sym e))
content_once (content.Routes ds) (content.Routes es) p q e = ap (λ (zs : List ℕ). content.Routes zs) (distances_spelled.once ds es p q (member_once (codes "routes") _ _ (first_same e)))

abbrev frame_members : Frame → List (List ℕ)
frame_members f = member (codes "acks") (quoted (bits_text f.acks)) ∷ content_members f.content

frame_members_closed : (f : Frame) → IsFrameTold f → AreClosed (frame_members f)
frame_members_closed f is = also_closed (codes "acks") refl (bits_spelled.closed f.acks tt) (content_closed _ is)

frame_once : (f g : Frame) → IsFrameTold f → IsFrameTold g → frame_text f ≡ frame_text g → f ≡ g
frame_once f g p q e =
    let all = object_once _ _ (frame_members_closed f p).all (frame_members_closed g q).all e in
    let acks : f.acks ≡ g.acks = bits_spelled.once f.acks g.acks tt tt (member_once (codes "acks") _ _ (first_same all)) in
    let brings : f.content ≡ g.content = content_once _ _ p q (rest_same all) in
    λ i. record { acks = acks i; content = brings i }

pub frame_spelled : Spelled frame_text IsFrameTold
frame_spelled = record { closed = λ f is. object_closed (frame_members f) (frame_members_closed f is).all; once = frame_once }

-- ---- hosts

queue_spelled : Spelled (λ xs. array (map whole_text xs)) (All IsMessageTold)
queue_spelled = lists_spelled whole_text IsMessageTold whole_spelled

answers_spelled : Spelled (λ xs. array (map told_text xs)) (All IsAnswerTold)
answers_spelled = lists_spelled told_text IsAnswerTold told_spelled

abbrev host_members : HostState → List (List ℕ)
host_members h = member (codes "up") (bool_text h.up) ∷ member (codes "messages") (array (map whole_text h.queue)) ∷ member (codes "answers") (array (map told_text h.answers)) ∷ []

host_closed : (h : HostState) → IsHostTold h → AreClosed (host_members h)
host_closed h is =
    also_closed (codes "up") refl (bool_spelled.closed h.up tt)
    (also_closed (codes "messages") refl (queue_spelled.closed h.queue is.queue)
    (also_closed (codes "answers") refl (answers_spelled.closed h.answers is.answers) none_closed))

host_once : (g h : HostState) → IsHostTold g → IsHostTold h → host_object g ≡ host_object h → g ≡ h
host_once g h p q e =
    let all = object_once (host_members g) (host_members h) (host_closed g p).all (host_closed h q).all e in
    let up : g.up ≡ h.up = bool_spelled.once g.up h.up tt tt (member_once (codes "up") (bool_text g.up) (bool_text h.up) (first_same all)) in
    let queue : g.queue ≡ h.queue = queue_spelled.once g.queue h.queue p.queue q.queue (member_once (codes "messages") (array (map whole_text g.queue)) (array (map whole_text h.queue)) (first_same (rest_same all))) in
    let answers : g.answers ≡ h.answers = answers_spelled.once g.answers h.answers p.answers q.answers (member_once (codes "answers") (array (map told_text g.answers)) (array (map told_text h.answers)) (first_same (rest_same (rest_same all)))) in
    λ i. record { up = up i; answers = answers i; queue = queue i }

pub host_spelled : Spelled host_object IsHostTold
host_spelled = record { closed = λ h is. object_closed (host_members h) (host_closed h is).all; once = host_once }

-- ---- ports

sending_spelled : Spelled (λ xs. array (map channel_text xs)) (All IsChannelTold)
sending_spelled = lists_spelled channel_text IsChannelTold channel_spelled

abbrev port_members : Port → List (List ℕ)
port_members p = member (codes "up") (bool_text p.up) ∷ member (codes "sending") (array (map channel_text p.line.sending)) ∷ member (codes "expected") (quoted (bits_text p.line.expected)) ∷ []

port_closed : (p : Port) → IsPortTold p → AreClosed (port_members p)
port_closed p is =
    also_closed (codes "up") refl (bool_spelled.closed p.up tt)
    (also_closed (codes "sending") refl (sending_spelled.closed p.line.sending is)
    (also_closed (codes "expected") refl (bits_spelled.closed p.line.expected tt) none_closed))

port_once : (g h : Port) → IsPortTold g → IsPortTold h → port_object g ≡ port_object h → g ≡ h
port_once g h p q e =
    let all = object_once (port_members g) (port_members h) (port_closed g p).all (port_closed h q).all e in
    let up : g.up ≡ h.up = bool_spelled.once g.up h.up tt tt (member_once (codes "up") (bool_text g.up) (bool_text h.up) (first_same all)) in
    let sending : g.line.sending ≡ h.line.sending = sending_spelled.once g.line.sending h.line.sending p q (member_once (codes "sending") (array (map channel_text g.line.sending)) (array (map channel_text h.line.sending)) (first_same (rest_same all))) in
    let expected : g.line.expected ≡ h.line.expected = bits_spelled.once g.line.expected h.line.expected tt tt (member_once (codes "expected") (quoted (bits_text g.line.expected)) (quoted (bits_text h.line.expected)) (first_same (rest_same (rest_same all)))) in
    λ i. record { up = up i; line = record { sending = sending i; expected = expected i } }

pub port_spelled : Spelled port_object IsPortTold
port_spelled = record { closed = λ p is. object_closed (port_members p) (port_closed p is).all; once = port_once }

-- ---- slots

pub packets_spelled : Spelled (λ xs. array (map packet_text xs)) (All IsPacketTold)
packets_spelled = lists_spelled packet_text IsPacketTold packet_spelled

record SameMessage (s t : SlotState) : Type 0 where
  flow : s.flow ≡ t.flow
  number : s.number ≡ t.number

-- the pieces say which message they are of
of_one : (s t : SlotState) (ps : List PacketFields) → 0 < length ps → All (IsPieceTold s) ps → All (IsPieceTold t) ps → SameMessage s t
of_one s t [] some p q = absurd (omega (arith, some))
of_one s t (x ∷ ps) some p q =
    let a : IsPieceTold s x = All-head (IsPieceTold s) x ps p in
    let b : IsPieceTold t x = All-head (IsPieceTold t) x ps q in
    record { flow = sym a.flow ∙ b.flow; number = sym a.number ∙ b.number }

pieces_told : (s : SlotState) → IsSlotTold s → All IsPacketTold s.pieces
pieces_told s is = All-weaker (IsPieceTold s) IsPacketTold (λ p piece. piece.told) s.pieces is.pieces

slot_once : (s t : SlotState) → IsSlotTold s → IsSlotTold t → slot_text s ≡ slot_text t → s ≡ t
slot_once s t p q e =
    let pieces : s.pieces ≡ t.pieces = packets_spelled.once s.pieces t.pieces (pieces_told s p) (pieces_told t q) e in
    let same : SameMessage s t = of_one s t _ p.some p.pieces (subst (λ (ps : List PacketFields). All (IsPieceTold t) ps) (sym pieces) q.pieces) in
    λ i. record { flow = same.flow i; number = same.number i; pieces = pieces i }

pub slot_spelled : Spelled slot_text IsSlotTold
slot_spelled = record { closed = λ s is. packets_spelled.closed s.pieces (pieces_told s is); once = slot_once }
