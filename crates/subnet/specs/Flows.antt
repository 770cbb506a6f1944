-- The flows of a subnet, as crate flow_law sees them.
use Rattle.std.specs.Prelude.{◌≡◌, ℕ, Bool, true, false, List, [], map, Option, Some, None, Contains}
use Rattle.bit_messages.specs.Body.{body}
use Rattle.interface.specs.Mailboxes.{Box, box_of}
use Rattle.interface.specs.declared.address.Flow.{Flow}
use Rattle.interface.specs.declared.crossing.Crossing.{Crossing}
use Rattle.link_table.specs.Flows.{kept_in, fate_in}
use Rattle.packetiser.specs.PacketFields.{PacketFields, flow_of}
use Rattle.packetiser.specs.Pieces.{IsPieceOf}
use Rattle.packetiser.specs.declared.packet.PacketKind.{PacketKind}
use Rattle.packetiser.specs.declared.packet.PacketKind.TheVariants as kind
use Rattle.flow_law.specs.View.{View, Packet, Queued, Kind}
use Rattle.imp_node.specs.declared.waiting.Message.{Message}
use Rattle.imp_node.specs.State.{State, is_up}
use Rattle.imp_node.specs.Sides.{Sender, Receiver, sender, receiver}
use Rattle.subnet.specs.Net.{Net, imp_at}
use Rattle.subnet.specs.Alive.{packets}

-- ---- packets

abbrev pub kind_of : PacketKind → Kind
kind_of kind.Data = Kind.Data
kind_of kind.Rfnm = Kind.Rfnm
kind_of kind.Dead = Kind.Dead
kind_of kind.Ask = Kind.Ask
kind_of kind.Never = Kind.Never

-- a packet of a flow as the flow's law sees it
abbrev pub packet_of : PacketFields → Packet
packet_of p = record { kind = kind_of p.kind; number = p.number; place = p.place; last = p.last; bits = p.bits }

-- a packet carries a piece of a text's body
abbrev pub Piece : List Bool → Packet → Type 0
Piece text x = IsPieceOf (body text) x.place x.last x.bits

-- a packet of the flow is alive
pub record Alive (n : Net) (f : Flow) (x : Packet) : Type 0 where
  pub fields : PacketFields
  pub there : Contains (packets n) fields
  pub flow : flow_of fields ≡ f
  pub packet : packet_of fields ≡ x

-- ---- what is of a flow

-- a message in a queue as the flow's law sees it
abbrev pub queued_of : Message → Queued
queued_of m = record { number = m.number; text = m.text }

-- an IMP that is down knows nothing
abbrev pub no_sender : Sender
no_sender = record { source = false; last = None; outstanding = None; answers = [] }

abbrev pub no_receiver : Receiver
no_receiver = record { destination = false; kept = None; queue = [] }

abbrev pub imp_is_up : Option State → Bool
imp_is_up None = false
imp_is_up (Some s) = true

abbrev pub sender_at : Option State → Flow → Sender
sender_at None f = no_sender
sender_at (Some s) f = sender s f

abbrev pub receiver_at : Option State → Flow → Receiver
receiver_at None f = no_receiver
receiver_at (Some s) f = receiver s f

-- both sides of a flow, and its mailbox
abbrev pub view_of : Bool → Sender → Bool → Receiver → Box → View
view_of from_up s to_up r box = record {
  from_up = from_up;
  source = s.source;
  last = s.last;
  outstanding = s.outstanding;
  answers = s.answers;
  to_up = to_up;
  destination = r.destination;
  kept = kept_in r.kept;
  fate = fate_in r.kept;
  queue = map queued_of r.queue;
  box = box;
}

abbrev pub view_by : List (Option State) → List Crossing → Flow → View
view_by imps log f =
    view_of (imp_is_up (imp_at imps f.source.imp)) (sender_at (imp_at imps f.source.imp) f)
    (imp_is_up (imp_at imps f.destination.imp)) (receiver_at (imp_at imps f.destination.imp) f) (box_of f log)

-- what is of a flow, its packets aside
abbrev pub view : Net → Flow → View
view n f = view_by n.imps n.log f

-- whether a host is up: its IMP is, and says so
abbrev pub host_is_up : Option State → ℕ → Bool
host_is_up None h = false
host_is_up (Some s) h = is_up s h
