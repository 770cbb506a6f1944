-- A packet, as a record of its fields.
use Rattle.std.specs.Prelude.{◌≡◌, ℕ, ◌+◌, ◌%◌, ◌<◌, ◌≤◌, Bool, true, false, List, length}
use Rattle.interface.specs.Host.{Host, most_imps}
use Rattle.interface.specs.declared.address.Flow.{Flow}
use Rattle.interface.specs.Flow.{message_numbers}
use Rattle.packetiser.specs.Limits.{piece_bits, most_pieces}
use Rattle.packetiser.specs.declared.packet.PacketKind.{PacketKind}
use Rattle.packetiser.specs.declared.packet.PacketKind.TheVariants as kind

-- what a packet says: its kind; its message's source, destination, link and number; the place of the piece that it carries,
-- whether that piece is the message's last, and the piece's bits
pub record PacketFields : Type 0 where
  pub kind : PacketKind
  pub source : Host
  pub destination : Host
  pub link : ℕ
  pub number : ℕ
  pub place : ℕ
  pub last : Bool
  pub bits : List Bool

-- the flow of the packet's message
abbrev pub flow_of : PacketFields → Flow
flow_of p = record { source = p.source; destination = p.destination; link = record { 0 = p.link } }

-- a host that packets name: its IMP can be one of a network
pub record IsPacketHost (h : Host) : Type 0 where
  pub some : 1 ≤ h.imp
  pub imp : h.imp ≤ most_imps
  pub host : h.host ≤ 3

-- a piece of a message: 16 to 1008 bits in units of sixteen, and 1008 in each but the last; the piece at place 7 is the last
pub record IsPiece (place : ℕ) (last : Bool) (size : ℕ) : Type 0 where
  pub some : 0 < size
  pub most : size ≤ piece_bits
  pub units : size % 16 ≡ 0
  pub full : last ≡ false → size ≡ piece_bits
  pub end : place + 1 ≡ most_pieces → last ≡ true

-- an answer or a question has place 0, the last flag and no bits
pub record IsAnswer (place : ℕ) (last : Bool) (size : ℕ) : Type 0 where
  pub first : place ≡ 0
  pub only : last ≡ true
  pub empty : size ≡ 0

-- what a packet of this kind carries
abbrev pub Carries : PacketKind → ℕ → Bool → ℕ → Type 0
Carries kind.Data place last size = IsPiece place last size
Carries kind.Rfnm place last size = IsAnswer place last size
Carries kind.Dead place last size = IsAnswer place last size
Carries kind.Ask place last size = IsAnswer place last size
Carries kind.Never place last size = IsAnswer place last size

-- the format of packets: what a packet may say
pub record IsPacket (p : PacketFields) : Type 0 where
  pub source : IsPacketHost p.source
  pub destination : IsPacketHost p.destination
  pub link : p.link < 256
  pub number : p.number < message_numbers
  pub place : p.place < most_pieces
  pub body : Carries p.kind p.place p.last (length p.bits)
