-- A property of every packet: what holds of all packets in an IMP before a call, of what comes in and of what is made, holds of
-- all packets in it and in its frames after the call. Here: the pump, and what calls are made of.
use Rattle.imp_node.proofs.Common.{Flow, Answer, Release, PacketFields, Content, Frame, Table, next_of, Outgoing, Port, State, ImpTurn, port_at}
use Rattle.std.proofs.Common.{ℕ, zero, suc, Bool, true, false, List, [], ◌∷◌, ◌++◌, Option, Some, None, cond, All, Contains}
use Rattle.std.proofs.lemmas.List.Elements.{All-nil, All-cons, All-head, All-tail, All-append, All-push, All-set, All-weaker, All-contains}
use Rattle.link_table.specs.declared.source.Release.TheVariants as release
use Rattle.packetiser.specs.Slots as slots
use Rattle.packetiser.specs.Rejoining.{AreAmong}
use Rattle.packetiser.proofs.lemmas.{All_left, All_right, added_only, discarded_only}
use Rattle.imp_channel.specs.Holding as channels
use Rattle.imp_channel.specs.Line.{End}
use Rattle.imp_channel.specs.declared.frame.Content.TheVariants as content
use Rattle.imp_channel.proofs.lemmas.{ContentHas, LineHas, PutHas, have_packets, opening_has, packets_have, submitted_has}
use Rattle.imp_node.specs.Pump.{Pumped, target, stored, sent_on, packet_sent, pumped, pump}
use Rattle.imp_node.specs.Flows.{answered_by}
use Rattle.imp_node.specs.Contents.{packets_in_channels, packets, packets_on, turn_packets}

-- ---- the property

abbrev pub PortHas : (PacketFields → Type 0) → Port → Type 0
PortHas P port = LineHas P port.line

abbrev pub OutgoingHas : (PacketFields → Type 0) → Outgoing → Type 0
OutgoingHas P out = ContentHas P out.frame.content

-- every packet in an IMP
pub record Has (P : PacketFields → Type 0) (s : State) : Type 0 where
  pub store : All P s.store
  pub lines : All (PortHas P) s.ports
  pub slots : All P (slots.packets_in s.slots)

-- every packet in an IMP and in its frames after a call
pub record TurnHas (P : PacketFields → Type 0) (turn : ImpTurn) : Type 0 where
  pub state : Has P turn.state
  pub frames : All (OutgoingHas P) turn.frames

-- ---- the packets as a list have it, and the other way

channels_have : (P : PacketFields → Type 0) (ports : List Port) → All (PortHas P) ports → All P (packets_in_channels ports)
channels_have P [] has = All-nil P
channels_have P (port ∷ ports) has =
    All-append P (channels.packets_in port.line.sending) (packets_in_channels ports) (packets_have P _ (All-head (PortHas P) port ports has)) (channels_have P ports (All-tail (PortHas P) port ports has))

have_channels : (P : PacketFields → Type 0) (ports : List Port) → All P (packets_in_channels ports) → All (PortHas P) ports
have_channels P [] all = All-nil (PortHas P)
have_channels P (port ∷ ports) all =
    All-cons (PortHas P) port ports (have_packets P _ (All_left P _ _ all)) (have_channels P ports (All_right P _ _ all))

pub packets_has : (P : PacketFields → Type 0) (s : State) → Has P s → All P (packets s)
packets_has P s h =
    All-append P s.store (packets_in_channels s.ports ++ slots.packets_in s.slots) h.store
    (All-append P (packets_in_channels s.ports) (slots.packets_in s.slots) (channels_have P _ h.lines) h.slots)

pub has_packets : (P : PacketFields → Type 0) (s : State) → All P (packets s) → Has P s
has_packets P s all =
    let rest : List PacketFields = packets_in_channels s.ports ++ slots.packets_in s.slots in
    let others : All P rest = All_right P _ rest all in
    record {
      store = All_left P _ rest all;
      lines = have_channels P _ (All_left P _ _ others);
      slots = All_right P _ _ others;
    }

content_has : (P : PacketFields → Type 0) (brings : Content) → ContentHas P brings → All P (channels.carried_by brings)
content_has P (content.Packet carried) here = All-cons P carried.packet [] here (All-nil P)
content_has P content.Nothing here = All-nil P
content_has P (content.Routes distances) here = All-nil P

pub frames_has : (P : PacketFields → Type 0) (frames : List Outgoing) → All (OutgoingHas P) frames → All P (packets_on frames)
frames_has P [] has = All-nil P
frames_has P (out ∷ frames) has =
    All-append P (channels.carried_by out.frame.content) (packets_on frames) (content_has P _ (All-head (OutgoingHas P) out frames has)) (frames_has P frames (All-tail (OutgoingHas P) out frames has))

pub turn_has : (P : PacketFields → Type 0) (turn : ImpTurn) → TurnHas P turn → All P (turn_packets turn)
turn_has P turn h = All-append P (packets turn.state) (packets_on turn.frames) (packets_has P _ h.state) (frames_has P _ h.frames)

-- ---- the pump

pub port_has : (P : PacketFields → Type 0) (ports : List Port) (k : ℕ) → All (PortHas P) ports → PortHas P (port_at ports k)
port_has P [] k has = opening_has P
port_has P (port ∷ ports) zero has = All-head (PortHas P) port ports has
port_has P (port ∷ ports) (suc k) has = port_has P ports k (All-tail (PortHas P) port ports has)

record PumpedHas (P : PacketFields → Type 0) (w : Pumped) : Type 0 where
  pub ports : All (PortHas P) w.ports
  pub waits : All P w.waits
  pub frames : All (OutgoingHas P) w.frames

sent_on_has : (P : PacketFields → Type 0) (ports : List Port) (k : ℕ) (p : PacketFields) (put : Option (End × Frame)) → All (PortHas P) ports → P p → PutHas P put → PumpedHas P (sent_on ports k p put)
sent_on_has P ports k p None has here put = record { ports = has; waits = All-cons P p [] here (All-nil P); frames = All-nil (OutgoingHas P) }
sent_on_has P ports k p (Some (end, frame)) has here put = record {
  ports = All-set (PortHas P) ports k (record (port_at ports k) { line = end }) put.0 has;
  waits = All-nil P;
  frames = All-cons (OutgoingHas P) (record { port = k; frame = frame }) [] put.1 (All-nil (OutgoingHas P));
}

sent_has : (P : PacketFields → Type 0) (ports : List Port) (p : PacketFields) (next : Option ℕ) → All (PortHas P) ports → P p → PumpedHas P (packet_sent ports p next)
sent_has P ports p None has here = record { ports = has; waits = All-nil P; frames = All-nil (OutgoingHas P) }
sent_has P ports p (Some k) has here =
    sent_on_has P ports k p _ has here (submitted_has P _ p (port_has P ports k has) here)

pumped_has : (P : PacketFields → Type 0) (routes : Table) (ports : List Port) (ps : List PacketFields) → All (PortHas P) ports → All P ps → PumpedHas P (pumped routes ports ps)
pumped_has P routes ports [] has all = record { ports = has; waits = All-nil P; frames = All-nil (OutgoingHas P) }
pumped_has P routes ports (p ∷ ps) has all =
    let one : Pumped = packet_sent ports p (next_of routes (target p)) in
    let here : PumpedHas P one = sent_has P ports p _ has (All-head P p ps all) in
    let rest : PumpedHas P (pumped routes one.ports ps) = pumped_has P routes one.ports ps here.ports (All-tail P p ps all) in
    record {
      ports = rest.ports;
      waits = All-append P one.waits (pumped routes one.ports ps).waits here.waits rest.waits;
      frames = All-append (OutgoingHas P) one.frames (pumped routes one.ports ps).frames here.frames rest.frames;
    }

pub pump_has : (P : PacketFields → Type 0) (frames : List Outgoing) (s : State) → All (OutgoingHas P) frames → Has P s → TurnHas P (pump frames s)
pump_has P frames s sent h =
    let w : PumpedHas P (pumped s.routes s.ports s.store) = pumped_has P _ _ _ h.lines h.store in
    record {
      state = record { store = w.waits; lines = w.ports; slots = h.slots };
      frames = All-append (OutgoingHas P) frames (pumped s.routes s.ports s.store).frames sent w.frames;
    }

-- where the call itself puts no frame on a line
pub quiet_has : (P : PacketFields → Type 0) (s : State) → Has P s → TurnHas P (pump [] s)
quiet_has P s h = pump_has P [] s (All-nil (OutgoingHas P)) h

-- ---- the steps of calls

pub stored_has : (P : PacketFields → Type 0) (p : PacketFields) (s : State) → P p → Has P s → Has P (stored p s)
stored_has P p s here h = record { store = All-append P s.store _ h.store (at _); lines = h.lines; slots = h.slots } where
  at : (b : Bool) → All P (cond b (p ∷ []) [])
  at true = All-cons P p [] here (All-nil P)
  at false = All-nil P

pub answered_has : (P : PacketFields → Type 0) (r : Release) (kind : Answer) (f : Flow) (n : ℕ) (s : State) → Has P s → Has P (answered_by r kind f n s)
answered_has P release.Freed kind f n s h = record { store = h.store; lines = h.lines; slots = h.slots }
answered_has P release.Stale kind f n s h = h

-- of packets that are among others
among_have : (P : PacketFields → Type 0) (ps qs : List PacketFields) → AreAmong ps qs → All P qs → All P ps
among_have P ps qs among all = All-weaker (Contains qs) P (λ p there. All-contains P qs p all there) ps among

pub added_has : (P : PacketFields → Type 0) (p : PacketFields) (held : List slots.SlotState) → P p → All P (slots.packets_in held) → All P (slots.packets_in (slots.added held p))
added_has P p held here all = among_have P _ _ (added_only held p) (All-push P (slots.packets_in held) p all here)

pub without_has : (P : PacketFields → Type 0) (f : Flow) (held : List slots.SlotState) → All P (slots.packets_in held) → All P (slots.packets_in (slots.without held f))
without_has P f held all = among_have P _ _ (discarded_only held f) all
