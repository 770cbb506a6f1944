-- What the texts of a subnet's parts say: all that is in it but its log, where memory has not run out, numbers are not too long for a
-- decimal, and all distances are vectors.
use Rattle.std.specs.Prelude.{◌≡◌, ℕ, ◌+◌, ◌<◌, ◌≤◌, true, false, List, Option, Some, None, IfSome, All, length, map}
use Rattle.std.specs.FinMap as fin
use Rattle.interface.specs.Host.{most_imps}
use Rattle.interface.specs.declared.address.Flow.{Flow}
use Rattle.packetiser.specs.PacketFields.{PacketFields, flow_of}
use Rattle.packetiser.specs.Slots.{SlotState}
use Rattle.routing.specs.Vector.{IsVector}
use Rattle.imp_channel.specs.Carriage.{Carriage}
use Rattle.imp_channel.specs.declared.channel.Channel.{Channel}
use Rattle.imp_channel.specs.declared.frame.Content.{Content}
use Rattle.imp_channel.specs.declared.frame.Content.TheVariants as content
use Rattle.imp_channel.specs.declared.frame.Frame.{Frame}
use Rattle.link_table.specs.Flows.{last_of}
use Rattle.link_table.specs.declared.destination.Noted.{Noted}
use Rattle.link_table.specs.declared.source.Standing.{Standing}
use Rattle.imp_node.specs.State.{HostState, State, number}
use Rattle.imp_node.specs.declared.port.Port.{Port}
use Rattle.imp_node.specs.declared.waiting.Message.{Message}
use Rattle.imp_node.specs.declared.waiting.Told.{Told}
use Rattle.replay.specs.Output.{Shown}
use Rattle.replay.specs.Replay.{Replays}
use Rattle.script.specs.Spelling.{IsEvent}
pub use Rattle.trace.specs.Named.{IsFlowNamed, IsHostNamed, IsShort}
use Rattle.script.specs.declared.event.RawEvent.{RawEvent}
use Rattle.subnet.specs.Calls.{Kept, running}
use Rattle.subnet.specs.Events.{is_imp, site_at}
use Rattle.subnet.specs.Net.{Net, Wire, imp_at}
use Rattle.subnet.specs.Opening.{hosts_from, opening_subnet}
use Rattle.subnet.specs.declared.Ends.{Ends}
use Rattle.subnet.specs.Working.{subnet_calls}
use Rattle.subnet_trace.specs.Parts.{Part, is_part, part_text}
use Rattle.subnet_trace.specs.Texts.{kept_of, sources_of}
use Rattle.trace.specs.Flows.{told}

-- ---- values

-- its bits may be as many as they like: their octets say how many there are to within eight, and the last digit of the decimal
-- says the rest
pub record IsPacketTold (p : PacketFields) : Type 0 where
  pub flow : IsFlowNamed (flow_of p)
  pub number : IsShort p.number
  pub place : IsShort p.place

pub record IsMessageTold (m : Message) : Type 0 where
  pub flow : IsFlowNamed m.flow
  pub number : IsShort m.number

abbrev pub IsAnswerTold : Told → Type 0
IsAnswerTold t = IsFlowNamed t.flow

-- ---- what an IMP keeps

pub record IsHostTold (h : HostState) : Type 0 where
  pub queue : All IsMessageTold h.queue
  pub answers : All IsAnswerTold h.answers

abbrev pub IsChannelTold : Channel → Type 0
IsChannelTold channel = IfSome channel.packet IsPacketTold

abbrev pub IsPortTold : Port → Type 0
IsPortTold p = All IsChannelTold p.line.sending

-- a distance that is not printed is infinite, and there is one to each IMP
abbrev pub IsHeardTold : Option (List ℕ) → Type 0
IsHeardTold heard = IfSome heard IsVector

-- a piece of the message of this slot
pub record IsPieceTold (s : SlotState) (p : PacketFields) : Type 0 where
  pub flow : flow_of p ≡ s.flow
  pub number : p.number ≡ s.number
  pub told : IsPacketTold p

-- pieces determine the message; without any there is no slot
pub record IsSlotTold (s : SlotState) : Type 0 where
  pub some : 0 < length s.pieces
  pub pieces : All (IsPieceTold s) s.pieces

pub record IsSourceTold (e : Flow × Standing) : Type 0 where
  pub flow : IsFlowNamed e.0
  pub number : IsShort (last_of e.1)

pub record IsKeptTold (e : Flow × Noted) : Type 0 where
  pub flow : IsFlowNamed e.0
  pub number : IsShort e.1.number

-- an IMP at the place of its number, which is not spent: memory never ran out in it
pub record IsImpTold (i : ℕ) (s : State) : Type 0 where
  pub own : number s ≡ i
  pub live : s.spent ≡ false
  pub hosts : All IsHostTold s.hosts
  pub ports : All IsPortTold s.ports
  pub routes : All IsHeardTold s.routes.heard
  pub store : All IsPacketTold s.store
  pub slots : All IsSlotTold s.slots
  pub sources : All IsSourceTold (fin.entries s.sources)
  pub kept : All IsKeptTold (fin.entries s.kept)

abbrev pub IsToldAt : ℕ → Option State → Type 0
IsToldAt i None = Unit {0}
IsToldAt i (Some s) = IsImpTold i s

-- ---- lines

pub record IsCarriageTold (c : Carriage) : Type 0 where
  pub channel : IsShort c.channel
  pub packet : IsPacketTold c.packet

abbrev pub IsContentTold : Content → Type 0
IsContentTold (content.Packet carried) = IsCarriageTold carried
IsContentTold content.Nothing = Unit {0}
IsContentTold (content.Routes distances) = IsVector distances

abbrev pub IsFrameTold : Frame → Type 0
IsFrameTold f = IsContentTold f.content

pub record IsLineTold (w : Wire) : Type 0 where
  pub forward : All IsFrameTold w.forward
  pub back : All IsFrameTold w.back

-- ---- a subnet

-- there is no IMP where the network has none
abbrev pub IsPlaced : Net → Type 0
IsPlaced n = (i : ℕ) → site_at n i ≡ None → imp_at n.imps i ≡ None

-- there is a place for each IMP of the network and for no other, and what is in each part is said
pub record IsTold (n : Net) : Type 0 where
  pub places : length n.imps ≡ length n.sites
  pub there : IsPlaced n
  pub imps : (i : ℕ) → IsToldAt i (imp_at n.imps i)
  pub lines : All IsLineTold n.lines

-- the two IMPs that a line joins
abbrev pub ends_of : Wire → ℕ × ℕ
ends_of w = (w.a, w.b)

-- the same hosts, IMPs and lines
pub record IsOneNetwork (n m : Net) : Type 0 where
  pub hosts : n.hosts ≡ m.hosts
  pub sites : n.sites ≡ m.sites
  pub lines : map ends_of n.lines ≡ map ends_of m.lines

-- all parts have the same texts: IMPs and lines, and the flows of each IMP
pub record SameTexts (n m : Net) : Type 0 where
  pub parts : (p : Part) → is_part n p ≡ true → part_text n p ≡ part_text m p
  pub sources : (i : ℕ) → is_imp n i ≡ true → map told (sources_of (imp_at n.imps i)) ≡ map told (sources_of (imp_at m.imps i))
  pub kept : (i : ℕ) → is_imp n i ≡ true → map told (kept_of (imp_at n.imps i)) ≡ map told (kept_of (imp_at m.imps i))

-- ---- replays

-- a replay comes to this subnet: from the opening of a network of at most 63 IMPs, whose hosts are listed as its IMPs have them, by
-- events that a script may ask for
pub record IsReached (sites : List (Option ℕ)) (ends : List Ends) (k : Kept) : Type 0 where
  pub events : List RawEvent
  pub shown : List Shown
  pub few : length sites ≤ most_imps + 1
  pub valid : All IsEvent events
  pub replayed : Replays subnet_calls (running (opening_subnet (hosts_from 0 sites) sites ends)) events k shown
