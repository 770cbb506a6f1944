-- Words, bits, packets, messages, channels and what is known of flows have texts of their own.
use Rattle.subnet_trace.proofs.Common.{◌≡◌, ℕ, ◌==◌, Bool, true, false, List, [], ◌∷◌, ◌++◌, codes, if◌then◌else◌, Option, Some, None, IfSome, refl, sym, ap, ap₂, ◌∙◌, All-append, All-nil, decimal, Flow, PacketFields, flow_of, PacketKind, Channel, Fate, Noted, Standing, State, Message, Told, told, FlowPart}
use Rattle.link_table.specs.Flows.{last_of}
use Rattle.trace.specs.Texts.{member, quoted, bits_members, flow_members}
use Rattle.trace.proofs.lemmas.{AreClosed, IsClosed, Spelled, also_closed, decimal_closed, first_same, member_once, none_closed, object_closed, object_once, rest_same, short_once, Words, answer_spelled, bits_closed, bits_same, flow_closed, flow_same, other_first, part_once, strings_spelled}
use Rattle.subnet_trace.specs.Texts.{bit_text, bits_text, channel_text, held_members, kind_word, packet_text, told_text, whole_text, kept_part, source_part, fate_state, piece_members, standing_state}
use Rattle.subnet_trace.specs.Told.{IsAnswerTold, IsChannelTold, IsFlowNamed, IsKeptTold, IsMessageTold, IsPacketTold, IsSourceTold}
use Rattle.std.specs.Str.{bytes_eq}
use Rattle.packetiser.specs.declared.packet.PacketKind.TheVariants as kind
use Rattle.link_table.specs.declared.destination.Fate.TheVariants as fate
use Rattle.link_table.specs.declared.source.Standing.TheVariants as standing
use Rattle.script.specs.Steps.{Lacks}
use Rattle.script.proofs.lemmas.{unmarked_where}
pub use Rattle.trace.proofs.lemmas.{Any, bool_spelled, word_closed}
use Rattle.trace.specs.declared.flow_part.FlowState.{FlowState}
use Rattle.trace.specs.declared.flow_part.FlowState.TheVariants as state

-- ---- bits

bit_once : (b c : Bool) → bit_text b ≡ bit_text c → b ≡ c
bit_once true true e = refl
bit_once true false e = absurd (other_first refl e)
bit_once false true e = absurd (other_first refl e)
bit_once false false e = refl

pub bit_spelled : Spelled bit_text Any
bit_spelled = record { closed = closed; once = λ b c p q e. bit_once b c e } where
  closed : (b : Bool) → Any b → IsClosed (bit_text b)
  closed true any = word_closed 49 [] refl
  closed false any = word_closed 48 [] refl

record SameBit (b c : Bool) (r s : List ℕ) : Type 0 where
  first : b ≡ c
  behind : r ≡ s

-- its first octet says all of a bit
bit_head : (b c : Bool) (r s : List ℕ) → bit_text b ++ r ≡ bit_text c ++ s → SameBit b c r s
bit_head true true r s e = record { first = refl; behind = rest_same e }
bit_head true false r s e = absurd (other_first refl e)
bit_head false true r s e = absurd (other_first refl e)
bit_head false false r s e = record { first = refl; behind = rest_same e }

some_bits : (b : Bool) (r : List ℕ) → [] ≡ bit_text b ++ r → ⊥
some_bits true r e = absurd (cc)
some_bits false r e = absurd (cc)

bits_once : (a b : List Bool) → bits_text a ≡ bits_text b → a ≡ b
bits_once [] [] e = refl
bits_once [] (y ∷ b) e = absurd (some_bits y _ e)
bits_once (x ∷ a) [] e = absurd (some_bits x _ (sym e))
bits_once (x ∷ a) (y ∷ b) e =
    let same = bit_head x y _ _ e in
    ap₂ (λ (z : Bool) (zs : List Bool). z ∷ zs) same.first (bits_once a b same.behind)

bit_plain : (b : Bool) → Lacks 34 (bit_text b)
bit_plain true = unmarked_where 34 (codes "1") refl
bit_plain false = unmarked_where 34 (codes "0") refl

bits_plain : (bits : List Bool) → Lacks 34 (bits_text bits)
bits_plain [] = All-nil (λ x. (x == 34) ≡ false)
bits_plain (b ∷ bits) = All-append (λ x. (x == 34) ≡ false) (bit_text b) (bits_text bits) (bit_plain b) (bits_plain bits)

bits_words : Words bits_text Any
bits_words = record { plain = λ bits any. bits_plain bits; once = λ a b p q e. bits_once a b e }

pub bits_spelled : Spelled (λ bits. quoted (bits_text bits)) Any
bits_spelled = strings_spelled bits_text Any bits_words

-- ---- packets

kind_in : List ℕ → PacketKind
kind_in word =
    if bytes_eq word (codes "data") then kind.Data
    else if bytes_eq word (codes "rfnm") then kind.Rfnm
    else if bytes_eq word (codes "dead") then kind.Dead
    else if bytes_eq word (codes "ask") then kind.Ask
    else kind.Never

kind_again : (k : PacketKind) → kind_in (kind_word k) ≡ k
unfolding kind_in
kind_again kind.Data = refl
kind_again k = refl

kind_plain : (k : PacketKind) → Lacks 34 (kind_word k)
kind_plain kind.Data = unmarked_where 34 (codes "data") refl
kind_plain kind.Rfnm = unmarked_where 34 (codes "rfnm") refl
kind_plain kind.Dead = unmarked_where 34 (codes "dead") refl
kind_plain kind.Ask = unmarked_where 34 (codes "ask") refl
kind_plain kind.Never = unmarked_where 34 (codes "never") refl

kind_words : Words kind_word Any
kind_words = record { plain = λ k any. kind_plain k; once = λ j k p q e. sym (kind_again j) ∙ ap kind_in e ∙ kind_again k }

kind_spelled : Spelled (λ k. quoted (kind_word k)) Any
kind_spelled = strings_spelled kind_word Any kind_words

abbrev packet_members : PacketFields → List (List ℕ)
packet_members p = member (codes "kind") (quoted (kind_word p.kind)) ∷ (flow_members (flow_of p) ++ piece_members p)

packet_closed : (p : PacketFields) → IsPacketTold p → AreClosed (packet_members p)
packet_closed p is =
    also_closed (codes "kind") refl (kind_spelled.closed p.kind tt)
    (flow_closed _ is.flow
    (also_closed (codes "number") refl (decimal_closed p.number)
    (also_closed (codes "place") refl (decimal_closed p.place)
    (also_closed (codes "last") refl (bool_spelled.closed p.last tt) (bits_closed p.bits)))))

packet_once : (p q : PacketFields) → IsPacketTold p → IsPacketTold q → packet_text p ≡ packet_text q → p ≡ q
packet_once p q ps qs e =
    let all = object_once _ _ (packet_closed p ps).all (packet_closed q qs).all e in
    let kinds : p.kind ≡ q.kind = kind_spelled.once p.kind q.kind tt tt (member_once (codes "kind") _ _ (first_same all)) in
    let flows = flow_same (flow_of p) (flow_of q) _ _ ps.flow qs.flow (rest_same all) in
    let pieces = flows.behind in
    let number : p.number ≡ q.number = short_once _ _ ps.number qs.number (member_once (codes "number") _ _ (first_same pieces)) in
    let place : p.place ≡ q.place = short_once _ _ ps.place qs.place (member_once (codes "place") _ _ (first_same (rest_same pieces))) in
    let last : p.last ≡ q.last = bool_spelled.once p.last q.last tt tt (member_once (codes "last") _ _ (first_same (rest_same (rest_same pieces)))) in
    let bits : p.bits ≡ q.bits = bits_same p.bits q.bits (rest_same (rest_same (rest_same pieces))) in
    let flow : flow_of p ≡ flow_of q = flows.first in
    λ i. record { kind = kinds i; source = (flow i).source; destination = (flow i).destination; link = (flow i).link.0; number = number i; place = place i; last = last i; bits = bits i }

pub packet_spelled : Spelled packet_text IsPacketTold
packet_spelled = record { closed = λ p is. object_closed (packet_members p) (packet_closed p is).all; once = packet_once }

-- ---- what waits for hosts

abbrev numbered_bits : ℕ → List Bool → List (List ℕ)
numbered_bits number bits = member (codes "number") (decimal number) ∷ bits_members bits

whole_closed : (m : Message) → IsMessageTold m → AreClosed (flow_members m.flow ++ numbered_bits m.number m.text)
whole_closed m is = flow_closed m.flow is.flow (also_closed (codes "number") refl (decimal_closed m.number) (bits_closed m.text))

whole_once : (m n : Message) → IsMessageTold m → IsMessageTold n → whole_text m ≡ whole_text n → m ≡ n
whole_once m n ms ns e =
    let all = object_once _ _ (whole_closed m ms).all (whole_closed n ns).all e in
    let flows = flow_same m.flow n.flow _ _ ms.flow ns.flow all in
    let number : m.number ≡ n.number = short_once _ _ ms.number ns.number (member_once (codes "number") _ _ (first_same flows.behind)) in
    let text : m.text ≡ n.text = bits_same m.text n.text (rest_same flows.behind) in
    λ i. record { flow = flows.first i; number = number i; text = text i }

pub whole_spelled : Spelled whole_text IsMessageTold
whole_spelled = record { closed = λ m is. object_closed (flow_members m.flow ++ numbered_bits m.number m.text) (whole_closed m is).all; once = whole_once }

told_once : (s t : Told) → IsAnswerTold s → IsAnswerTold t → told_text s ≡ told_text t → s ≡ t
told_once s t p q e =
    let same : (s.kind, s.flow) ≡ (t.kind, t.flow) = answer_spelled.once (s.kind, s.flow) (t.kind, t.flow) p q e in
    λ i. record { kind = (same i).0; flow = (same i).1 }

pub told_spelled : Spelled told_text IsAnswerTold
told_spelled = record { closed = λ t is. answer_spelled.closed (t.kind, t.flow) is; once = told_once }

-- ---- channels

pub none_left : {X : Type 0} {x : X} {xs : List X} → [] ≡ x ∷ xs → ⊥
none_left e = absurd (cc)

held_closed : (o : Option PacketFields) → IfSome o IsPacketTold → AreClosed (held_members o)
held_closed None is = none_closed
held_closed (Some p) is = also_closed (codes "packet") refl (packet_spelled.closed p is) none_closed

held_once : (o r : Option PacketFields) → IfSome o IsPacketTold → IfSome r IsPacketTold → held_members o ≡ held_members r → o ≡ r
held_once None None p q e = refl
held_once None (Some y) p q e = absurd (none_left e)
held_once (Some x) None p q e = absurd (none_left (sym e))
held_once (Some x) (Some y) p q e = ap (λ (z : PacketFields). Some z) (packet_spelled.once x y p q (member_once (codes "packet") _ _ (first_same e)))

abbrev channel_members : Channel → List (List ℕ)
channel_members c = member (codes "bit") (bit_text c.bit) ∷ held_members c.packet

channel_closed : (c : Channel) → IsChannelTold c → AreClosed (channel_members c)
channel_closed c is = also_closed (codes "bit") refl (bit_spelled.closed c.bit tt) (held_closed _ is)

channel_once : (c d : Channel) → IsChannelTold c → IsChannelTold d → channel_text c ≡ channel_text d → c ≡ d
channel_once c d p q e =
    let all = object_once _ _ (channel_closed c p).all (channel_closed d q).all e in
    let bit : c.bit ≡ d.bit = bit_spelled.once c.bit d.bit tt tt (member_once (codes "bit") _ _ (first_same all)) in
    let packet : c.packet ≡ d.packet = held_once _ _ p q (rest_same all) in
    λ i. record { bit = bit i; packet = packet i }

pub channel_spelled : Spelled channel_text IsChannelTold
channel_spelled = record { closed = λ c is. object_closed (channel_members c) (channel_closed c is).all; once = channel_once }

-- ---- flows at their sources and destinations

standing_in : FlowState → ℕ → Standing
standing_in state.Outstanding l = standing.Outstanding l
standing_in state.Answered l = standing.Answered l
standing_in x l = standing.Idle l

standing_again : (waits : Bool) (s : Standing) → standing_in (standing_state waits s) (last_of s) ≡ s
unfolding standing_in
standing_again true (standing.Idle l) = refl
standing_again false (standing.Idle l) = refl
standing_again waits (standing.Outstanding l) = refl
standing_again waits (standing.Answered l) = refl

-- of two IMPs
pub source_once : (s t : State) (e f : Flow × Standing) → IsSourceTold e → IsSourceTold f → told (source_part s e) ≡ told (source_part t f) → e ≡ f
source_once s t e f p q h =
    let same : source_part s e ≡ source_part t f = part_once _ _ (record { flow = p.flow; number = p.number }) (record { flow = q.flow; number = q.number }) h in
    let standings : e.1 ≡ f.1 = sym (standing_again _ e.1) ∙ ap (λ (x : FlowPart). standing_in x.state x.number) same ∙ standing_again _ f.1 in
    λ i. ((same i).flow, standings i)

fate_in : FlowState → Fate
fate_in state.Waits = fate.Waits
fate_in state.Taken = fate.Taken
fate_in state.Dead = fate.Dead
fate_in x = fate.Never

fate_again : (x : Fate) → fate_in (fate_state x) ≡ x
unfolding fate_in
fate_again fate.Waits = refl
fate_again fate.Taken = refl
fate_again fate.Dead = refl
fate_again fate.Never = refl

pub kept_once : (e f : Flow × Noted) → IsKeptTold e → IsKeptTold f → told (kept_part e) ≡ told (kept_part f) → e ≡ f
kept_once e f p q h =
    let same : kept_part e ≡ kept_part f = part_once _ _ (record { flow = p.flow; number = p.number }) (record { flow = q.flow; number = q.number }) h in
    let fates : e.1.fate ≡ f.1.fate = sym (fate_again _) ∙ ap (λ (x : FlowPart). fate_in x.state) same ∙ fate_again _ in
    λ i. ((same i).flow, record { number = (same i).number; fate = fates i })
