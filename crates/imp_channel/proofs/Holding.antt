-- What an end holds and sends, and what it gives: a property of all packets that come in holds of all of them.
use Rattle.std.proofs.Common.{◌≡◌, ℕ, zero, suc, ◌+◌, ◌<◌, Bool, true, false, not, List, [], ◌∷◌, ◌++◌, length, get_or, set, Option, Some, None, Ok, Err, refl, sym, ap, subst, cond, leb, arith, All, Contains, IfSome, IsPermutation, position, replicate}
use Rattle.std.proofs.lemmas.List.Elements.{All-nil, All-cons, All-head, All-tail, All-append, All-set, All-replicate, All-weaker, All-contains_itself, Contains-append_left, Contains-push}
use Rattle.std.proofs.lemmas.List.Quantifiers.{position-Some}
use Rattle.std.proofs.lemmas.List.Sorted.{IsPermutation-refl, IsPermutation-trans, IsPermutation-append_right, IsPermutation-middle}
use Rattle.packetiser.specs.PacketFields.{PacketFields}
use Rattle.packetiser.specs.Rejoining.{AreAmong}
use Rattle.imp_channel.specs.Holding.{packet_of, packets_in, carried_by, carried_by_all}
use Rattle.imp_channel.specs.Line.{End, opening_end, opening_channel, is_free, submitted, submitted_on, frames_of, frames_from, resent, differs, acknowledged, all_acknowledged, is_foreign, has_expected_bit, expected_after, brought, answer_to, state_after}
use Rattle.imp_channel.proofs.Calls.{none_from}
use Rattle.imp_channel.specs.declared.channel.Channel.{Channel}
use Rattle.imp_channel.specs.declared.channel.TheConstants.{CHANNELS}
use Rattle.imp_channel.specs.declared.fault.ChannelFault.TheVariants as fault
use Rattle.imp_channel.specs.declared.frame.Content.{Content}
use Rattle.imp_channel.specs.declared.frame.Content.TheVariants as content
use Rattle.imp_channel.specs.declared.frame.Frame.{Frame}
use Rattle.imp_channel.specs.declared.line.Received.TheVariants as received

-- the packet that a channel holds, if any, has this property
abbrev pub ChannelHas : (PacketFields → Type 0) → Channel → Type 0
ChannelHas P ch = IfSome ch.packet P

-- every packet that an end holds has this property
abbrev pub LineHas : (PacketFields → Type 0) → End → Type 0
LineHas P e = All (ChannelHas P) e.sending

-- the packet that a frame carries, if any, has this property
abbrev pub ContentHas : (PacketFields → Type 0) → Content → Type 0
ContentHas P (content.Packet carried) = P carried.packet
ContentHas P content.Nothing = Unit {0}
ContentHas P (content.Routes distances) = Unit {0}

-- ---- the property, over each call

pub opening_has : (P : PacketFields → Type 0) → LineHas P opening_end
opening_has P = All-replicate (ChannelHas P) CHANNELS opening_channel tt

-- an end and its frame after a packet was put in
abbrev pub PutHas : (PacketFields → Type 0) → Option (End × Frame) → Type 0
PutHas P put = IfSome put (λ both. LineHas P both.0 × ContentHas P both.1.content)

submitted_on_has : (P : PacketFields → Type 0) (e : End) (p : PacketFields) (free : Option ℕ) → LineHas P e → P p → PutHas P (submitted_on e p free)
submitted_on_has P e p None has here = tt
submitted_on_has P e p (Some c) has here = (All-set (ChannelHas P) e.sending c _ here has, here)

pub submitted_has : (P : PacketFields → Type 0) (e : End) (p : PacketFields) → LineHas P e → P p → PutHas P (submitted e p)
unfolding submitted
submitted_has P e p has here = submitted_on_has P e p (position is_free e.sending) has here

acknowledged_has : (P : PacketFields → Type 0) (ack bit : Bool) (packet : Option PacketFields) → IfSome packet P
    → ChannelHas P (acknowledged ack (record { bit = bit; packet = packet }))
acknowledged_has P ack bit None has = tt
acknowledged_has P ack bit (Some p) has = at (differs ack bit)
  where
    at : (d : Bool) → ChannelHas P (cond d (record { bit = not bit; packet = None }) (record { bit = bit; packet = Some p }))
    at true = tt
    at false = has

all_acknowledged_has : (P : PacketFields → Type 0) (acks : List Bool) (chs : List Channel) → All (ChannelHas P) chs → All (ChannelHas P) (all_acknowledged acks chs)
all_acknowledged_has P acks [] has = has
all_acknowledged_has P [] (ch ∷ chs) has =
    All-cons (ChannelHas P) (acknowledged false ch) (all_acknowledged [] chs) (acknowledged_has P false ch.bit ch.packet (All-head (ChannelHas P) ch chs has)) (all_acknowledged_has P [] chs (All-tail (ChannelHas P) ch chs has))
all_acknowledged_has P (ack ∷ acks) (ch ∷ chs) has =
    All-cons (ChannelHas P) (acknowledged ack ch) (all_acknowledged acks chs) (acknowledged_has P ack ch.bit ch.packet (All-head (ChannelHas P) ch chs has)) (all_acknowledged_has P acks chs (All-tail (ChannelHas P) ch chs has))

pub received_has : (P : PacketFields → Type 0) (e : End) (f : Frame) → LineHas P e → LineHas P (state_after e f)
received_has P e f has = at (is_foreign f.content)
  where
    at : (foreign : Bool) → LineHas P (cond foreign e (record { sending = all_acknowledged f.acks e.sending; expected = expected_after e.expected f.content }))
    at true = has
    at false = all_acknowledged_has P f.acks e.sending has

-- the packet given is that of the frame
carried_fresh : (foreign expected : Bool) (packet p : PacketFields)
    → cond foreign (Err fault.NotCanonical) (Ok (cond expected (received.Fresh packet) received.Repeat)) ≡ Ok (received.Fresh p) → packet ≡ p
carried_fresh true expected packet p is = cc
carried_fresh false true packet p is = cc
carried_fresh false false packet p is = cc

pub fresh_carried : (e : End) (f : Frame) (p : PacketFields) → answer_to e f ≡ Ok (received.Fresh p) → carried_by f.content ≡ p ∷ []
fresh_carried e f p is = at f.content is
  where
    at : (brings : Content) → cond (is_foreign brings) (Err fault.NotCanonical) (Ok (brought e.expected brings)) ≡ Ok (received.Fresh p) → carried_by brings ≡ p ∷ []
    at (content.Packet carried) is =
        ap (λ (q : PacketFields). q ∷ []) (carried_fresh (leb CHANNELS carried.channel) (has_expected_bit e.expected carried) carried.packet p is)
    at content.Nothing is = cc
    at (content.Routes distances) is = cc

frames_has : (P : PacketFields → Type 0) (e : End) (n : ℕ) (chs : List Channel) → All (ChannelHas P) chs → All (λ f. ContentHas P f.content) (frames_from e n chs)
frames_has P e n [] has = All-nil (λ f. ContentHas P f.content)
frames_has P e n (ch ∷ chs) has =
    All-append (λ f. ContentHas P f.content) (frames_of e n ch.bit ch.packet) (frames_from e (n + 1) chs) (at ch.packet (All-head (ChannelHas P) ch chs has)) (frames_has P e (n + 1) chs (All-tail (ChannelHas P) ch chs has))
  where
    at : (packet : Option PacketFields) → IfSome packet P → All (λ f. ContentHas P f.content) (frames_of e n ch.bit packet)
    at None here = All-nil (λ f. ContentHas P f.content)
    at (Some p) here = All-cons (λ f. ContentHas P f.content) _ [] here (All-nil (λ f. ContentHas P f.content))

pub resent_has : (P : PacketFields → Type 0) (e : End) → LineHas P e → All (λ f. ContentHas P f.content) (resent e)
resent_has P e has = frames_has P e 0 e.sending has

-- ---- the property of the packets themselves

one_has : (P : PacketFields → Type 0) (packet : Option PacketFields) → IfSome packet P → All P (packet_of packet)
one_has P None here = All-nil P
one_has P (Some p) here = All-cons P p [] here (All-nil P)

has_one : (P : PacketFields → Type 0) (packet : Option PacketFields) (ps : List PacketFields) → All P (packet_of packet ++ ps) → IfSome packet P × All P ps
has_one P None ps all = (tt, all)
has_one P (Some p) ps all = (All-head P p ps all, All-tail P p ps all)

pub packets_have : (P : PacketFields → Type 0) (chs : List Channel) → All (ChannelHas P) chs → All P (packets_in chs)
packets_have P [] has = All-nil P
packets_have P (ch ∷ chs) has =
    All-append P (packet_of ch.packet) (packets_in chs) (one_has P ch.packet (All-head (ChannelHas P) ch chs has)) (packets_have P chs (All-tail (ChannelHas P) ch chs has))

pub have_packets : (P : PacketFields → Type 0) (chs : List Channel) → All P (packets_in chs) → All (ChannelHas P) chs
have_packets P [] all = All-nil (ChannelHas P)
have_packets P (ch ∷ chs) all =
    let both = has_one P ch.packet (packets_in chs) all in
    All-cons (ChannelHas P) ch chs both.0 (have_packets P chs both.1)

-- ---- the law

free_packets : (n : ℕ) → packets_in (replicate n opening_channel) ≡ []
free_packets zero = refl
free_packets (suc n) = free_packets n

pub opening_packets : packets_in opening_end.sending ≡ []
opening_packets = free_packets CHANNELS

-- a channel that was free holds one packet more
one_more : (chs : List Channel) (c : ℕ) (bit : Bool) (p : PacketFields) → c < length chs → (get_or chs c opening_channel).packet ≡ None
    → IsPermutation (packets_in (set chs c (record { bit = bit; packet = Some p }))) (p ∷ packets_in chs)
one_more [] c bit p within free = absurd (omega arith)
one_more (ch ∷ chs) zero bit p within free =
    let P : Option PacketFields → Type 0 = λ packet. IsPermutation (p ∷ packets_in chs) (p ∷ (packet_of packet ++ packets_in chs)) in
    subst P (sym free) (IsPermutation-refl (p ∷ packets_in chs))
one_more (ch ∷ chs) (suc c) bit p within free =
    let rest : List PacketFields = packets_in (set chs c (record { bit = bit; packet = Some p })) in
    IsPermutation-trans (packet_of ch.packet ++ rest) (packet_of ch.packet ++ p ∷ packets_in chs) (p ∷ (packet_of ch.packet ++ packets_in chs))
    (IsPermutation-append_right (packet_of ch.packet) rest (p ∷ packets_in chs) (one_more chs c bit p (omega arith) free))
    (IsPermutation-middle (packet_of ch.packet) p (packets_in chs))

-- what was put in: the packets of the end after it, and the packet of its frame
abbrev pub IsPut : End → PacketFields → Option (End × Frame) → Type 0
IsPut e p put = IfSome put (λ both. IsPermutation (packets_in both.0.sending) (p ∷ packets_in e.sending) × (carried_by both.1.content ≡ p ∷ []))

put_on : (e : End) (p : PacketFields) (free : Option ℕ) → position is_free e.sending ≡ free → IsPut e p (submitted_on e p free)
put_on e p None is = tt
put_on e p (Some c) is =
    let found = position-Some is_free e.sending c opening_channel is in
    (one_more e.sending c (get_or e.sending c opening_channel).bit p found.0 (none_from (get_or e.sending c opening_channel).packet found.1), refl)

is_put : (e : End) (p : PacketFields) → IsPut e p (submitted e p)
unfolding submitted
is_put e p = put_on e p (position is_free e.sending) refl

pub put_packets : (e end : End) (p : PacketFields) (f : Frame) → submitted e p ≡ Some (end, f)
    → IsPermutation (packets_in end.sending) (p ∷ packets_in e.sending) × (carried_by f.content ≡ p ∷ [])
put_packets e end p f is = subst (IsPut e p) is (is_put e p)

pub put_among : (e end : End) (p : PacketFields) (f : Frame) → submitted e p ≡ Some (end, f) → AreAmong (packets_in end.sending) (packets_in e.sending ++ p ∷ [])
put_among e end p f is =
    let P : PacketFields → Type 0 = Contains (packets_in e.sending ++ p ∷ []) in
    let itself : LineHas P e =
    have_packets P e.sending (All-weaker (Contains (packets_in e.sending)) P (λ x here. Contains-append_left (packets_in e.sending) (p ∷ []) x here) (packets_in e.sending) (All-contains_itself (packets_in e.sending))) in
    packets_have P end.sending (subst (PutHas P) is (submitted_has P e p itself (Contains-push (packets_in e.sending) p))).0

pub received_packets : (e : End) (f : Frame) → AreAmong (packets_in (state_after e f).sending) (packets_in e.sending)
received_packets e f =
    let P : PacketFields → Type 0 = Contains (packets_in e.sending) in
    packets_have P (state_after e f).sending (received_has P e f (have_packets P e.sending (All-contains_itself (packets_in e.sending))))

carried_first : (e : End) (n : ℕ) (bit : Bool) (packet : Option PacketFields) (frames : List Frame) (ps : List PacketFields) → carried_by_all frames ≡ ps
    → carried_by_all (frames_of e n bit packet ++ frames) ≡ packet_of packet ++ ps
carried_first e n bit None frames ps rest = rest
carried_first e n bit (Some p) frames ps rest = ap (λ (qs : List PacketFields). p ∷ qs) rest

carried_from : (e : End) (n : ℕ) (chs : List Channel) → carried_by_all (frames_from e n chs) ≡ packets_in chs
carried_from e n [] = refl
carried_from e n (ch ∷ chs) = carried_first e n ch.bit ch.packet (frames_from e (n + 1) chs) (packets_in chs) (carried_from e (n + 1) chs)

pub resent_packets : (e : End) → carried_by_all (resent e) ≡ packets_in e.sending
resent_packets e = carried_from e 0 e.sending
