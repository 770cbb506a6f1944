-- A property of every packet of a subnet: what holds of all packets before an event, and of what the event makes, holds of all
-- packets after it.
use Rattle.subnet.proofs.Common.{ℕ, zero, suc, List, [], ◌∷◌, Option, Some, None, All, Contains, flat_map, All-nil, All-cons, All-head, All-tail, All-append, All-set, All-contains, All-contains_itself, Direction, PacketFields, All_left, All_right, carried_by, Content, Frame, ContentHas, State, ImpTurn, Net, Wire, imp_at, with_turn, packets_on, packets_on_wire, packets_at_imp, packets, drop_frame}
use Rattle.std.specs.Prelude.{slice_get}
use Rattle.imp_channel.specs.declared.frame.Content.TheVariants as content
use Rattle.imp_node.proofs.lemmas.{Has, TurnHas, has_packets, packets_has}
use Rattle.subnet.proofs.Packets.OnLines.{WireHolds, dropped_holds, put_all_holds}

-- ---- the property

abbrev pub FrameHas : (PacketFields → Type 0) → Frame → Type 0
FrameHas P f = ContentHas P f.content

abbrev pub FramesHave : (PacketFields → Type 0) → List Frame → Type 0
FramesHave P frames = All (FrameHas P) frames

abbrev pub WireHas : (PacketFields → Type 0) → Wire → Type 0
WireHas P w = WireHolds (FrameHas P) w

abbrev pub ImpHas : (PacketFields → Type 0) → Option State → Type 0
ImpHas P None = Unit {0}
ImpHas P (Some s) = Has P s

-- every packet of a subnet
pub record NetHas (P : PacketFields → Type 0) (n : Net) : Type 0 where
  pub imps : All (ImpHas P) n.imps
  pub lines : All (WireHas P) n.lines

-- ---- the packets as a list have it, and the other way

content_packets : (P : PacketFields → Type 0) (c : Content) → ContentHas P c → All P (carried_by c)
content_packets P (content.Packet carried) here = All-cons P carried.packet [] here (All-nil P)
content_packets P content.Nothing here = All-nil P
content_packets P (content.Routes distances) here = All-nil P

pub content_has : (P : PacketFields → Type 0) (c : Content) → All P (carried_by c) → ContentHas P c
content_has P (content.Packet carried) all = All-head P carried.packet [] all
content_has P content.Nothing all = tt
content_has P (content.Routes distances) all = tt

pub frame_packets : (P : PacketFields → Type 0) (f : Frame) → FrameHas P f → All P (carried_by f.content)
frame_packets P f has = content_packets P _ has

frames_packets : (P : PacketFields → Type 0) (frames : List Frame) → FramesHave P frames → All P (packets_on frames)
frames_packets P [] has = All-nil P
frames_packets P (f ∷ frames) has =
    All-append P (carried_by f.content) (packets_on frames) (content_packets P _ (All-head (FrameHas P) f frames has)) (frames_packets P frames (All-tail (FrameHas P) f frames has))

frames_have : (P : PacketFields → Type 0) (frames : List Frame) → All P (packets_on frames) → FramesHave P frames
frames_have P [] all = All-nil (FrameHas P)
frames_have P (f ∷ frames) all =
    All-cons (FrameHas P) f frames (content_has P _ (All_left P _ _ all)) (frames_have P frames (All_right P _ _ all))

wires_packets : (P : PacketFields → Type 0) (lines : List Wire) → All (WireHas P) lines → All P (flat_map packets_on_wire lines)
wires_packets P [] has = All-nil P
wires_packets P (w ∷ ws) has =
    let here : WireHas P w = All-head (WireHas P) w ws has in
    All-append P (packets_on_wire w) (flat_map packets_on_wire ws)
    (All-append P (packets_on w.forward) (packets_on w.back) (frames_packets P _ here.forward) (frames_packets P w.back here.back))
    (wires_packets P ws (All-tail (WireHas P) w ws has))

wires_have : (P : PacketFields → Type 0) (lines : List Wire) → All P (flat_map packets_on_wire lines) → All (WireHas P) lines
wires_have P [] all = All-nil (WireHas P)
wires_have P (w ∷ ws) all =
    let here : All P (packets_on_wire w) = All_left P _ _ all in
    All-cons (WireHas P) w ws
    (record {
      forward = frames_have P _ (All_left P _ _ here);
      back = frames_have P w.back (All_right P _ _ here);
    })
    (wires_have P ws (All_right P _ _ all))

imp_packets : (P : PacketFields → Type 0) (o : Option State) → ImpHas P o → All P (packets_at_imp o)
imp_packets P None has = All-nil P
imp_packets P (Some s) has = packets_has P s has

imps_packets : (P : PacketFields → Type 0) (imps : List (Option State)) → All (ImpHas P) imps → All P (flat_map packets_at_imp imps)
imps_packets P [] has = All-nil P
imps_packets P (o ∷ imps) has =
    All-append P (packets_at_imp o) (flat_map packets_at_imp imps) (imp_packets P o (All-head (ImpHas P) o imps has)) (imps_packets P imps (All-tail (ImpHas P) o imps has))

one_imp_has : (P : PacketFields → Type 0) (o : Option State) → All P (packets_at_imp o) → ImpHas P o
one_imp_has P None all = tt
one_imp_has P (Some s) all = has_packets P s all

imps_have : (P : PacketFields → Type 0) (imps : List (Option State)) → All P (flat_map packets_at_imp imps) → All (ImpHas P) imps
imps_have P [] all = All-nil (ImpHas P)
imps_have P (o ∷ imps) all =
    All-cons (ImpHas P) o imps (one_imp_has P o (All_left P _ _ all)) (imps_have P imps (All_right P _ _ all))

pub net_packets : (P : PacketFields → Type 0) (n : Net) → NetHas P n → All P (packets n)
net_packets P n h = All-append P (flat_map packets_at_imp n.imps) (flat_map packets_on_wire n.lines) (imps_packets P n.imps h.imps) (wires_packets P _ h.lines)

pub packets_net : (P : PacketFields → Type 0) (n : Net) → All P (packets n) → NetHas P n
packets_net P n all = record {
  imps = imps_have P n.imps (All_left P _ _ all);
  lines = wires_have P _ (All_right P _ _ all);
}

-- each packet of a subnet is one of its packets
pub net_itself : (n : Net) → NetHas (Contains (packets n)) n
net_itself n = packets_net _ n (All-contains_itself (packets n))

pub net_at : (P : PacketFields → Type 0) (n : Net) → NetHas P n → (p : PacketFields) → Contains (packets n) p → P p
net_at P n h p there = All-contains P (packets n) p (net_packets P n h) there

-- ---- IMPs and lines by their places

pub imp_has : (P : PacketFields → Type 0) (imps : List (Option State)) (i : ℕ) → All (ImpHas P) imps → ImpHas P (imp_at imps i)
imp_has P [] i has = tt
imp_has P (o ∷ imps) zero has = All-head (ImpHas P) o imps has
imp_has P (o ∷ imps) (suc i) has = imp_has P imps i (All-tail (ImpHas P) o imps has)

-- the frame at a place, if there is one
abbrev pub GotHas : (PacketFields → Type 0) → Option Frame → Type 0
GotHas P None = Unit {0}
GotHas P (Some f) = FrameHas P f

pub got_has : (P : PacketFields → Type 0) (frames : List Frame) (k : ℕ) → FramesHave P frames → GotHas P (slice_get frames k)
got_has P [] k has = tt
got_has P (f ∷ frames) zero has = All-head (FrameHas P) f frames has
got_has P (f ∷ frames) (suc k) has = got_has P frames k (All-tail (FrameHas P) f frames has)

-- ---- calls of IMPs

pub with_turn_has : (P : PacketFields → Type 0) (i : ℕ) (turn : ImpTurn) (n : Net) → NetHas P n → TurnHas P turn → NetHas P (with_turn i turn n)
with_turn_has P i turn n h t = record {
  imps = All-set (ImpHas P) n.imps i (Some turn.state) t.state h.imps;
  lines = put_all_holds _ _ i _ h.lines t.frames;
}

-- ---- a frame is dropped

pub dropped_has : (P : PacketFields → Type 0) (n : Net) (l : ℕ) (d : Direction) (k : ℕ) → NetHas P n → NetHas P (drop_frame n l d k)
dropped_has P n l d k h = record { imps = h.imps; lines = dropped_holds _ _ l d k h.lines }
