-- Frames and their octets.
--
-- Octet 0 is the version, the same in every frame, octet 1 the kind, octet 2 the acknowledgement bits, that of channel 0 in
-- the lowest place. In a packet frame octet 3 has the channel in its lowest three places and the packet's bit in the next, and
-- the packet follows. In a routes frame the distances follow, an octet each, that to IMP 1 first.
use Rattle.std.specs.Prelude.{◌≡◌, ℕ, zero, suc, ◌+◌, ◌*◌, ◌/◌, ◌%◌, ◌<◌, Bool, true, false, List, [], ◌∷◌, length, Result, Ok, Err, IsOk, nat_lt, nat_le, ◌==◌, if◌then◌else◌}
use Rattle.interface.specs.Host.{most_imps}
use Rattle.packetiser.specs.PacketFields.{PacketFields, IsPacket}
use Rattle.packetiser.specs.Format as packets
use Rattle.packetiser.specs.declared.fault.PacketFault.{PacketFault}
use Rattle.packetiser.specs.declared.fault.PacketFault.TheVariants as packet_fault
use Rattle.routing.specs.Vector.{IsVector, is_vector}
use Rattle.imp_channel.specs.Carriage.{Carriage}
use Rattle.imp_channel.specs.declared.fault.ChannelFault.{ChannelFault}
use Rattle.imp_channel.specs.declared.fault.ChannelFault.TheVariants as fault
use Rattle.imp_channel.specs.declared.frame.Content.{Content}
use Rattle.imp_channel.specs.declared.frame.Content.TheVariants as content
use Rattle.imp_channel.specs.declared.frame.Frame.{Frame}

-- the version of this format (F2, in hexadecimal)
abbrev pub version : ℕ
version = 242

-- ---- writing

abbrev pub bit_value : Bool → ℕ
bit_value true = 1
bit_value false = 0

-- the octet of these bits, the first in the lowest place
unfoldable pub octet_of : List Bool → ℕ
octet_of [] = 0
octet_of (bit ∷ bits) = bit_value bit + 2 * octet_of bits

abbrev pub kind_octet : Content → ℕ
kind_octet (content.Packet carried) = 0
kind_octet content.Nothing = 1
kind_octet (content.Routes distances) = 2

-- a packet's channel in the three lowest places, and its bit in the next
abbrev pub channel_octet : Carriage → ℕ
channel_octet carried = if carried.bit then carried.channel + 8 else carried.channel

-- what follows the acknowledgement bits
abbrev pub rest_of : Content → List ℕ
rest_of (content.Packet carried) = channel_octet carried ∷ packets.spelling carried.packet
rest_of content.Nothing = []
rest_of (content.Routes distances) = distances

-- what follows the version
abbrev pub after_version : Frame → List ℕ
after_version f = kind_octet f.content ∷ octet_of f.acks ∷ rest_of f.content

-- how a frame is written
abbrev pub spelling : Frame → List ℕ
spelling f = version ∷ after_version f

-- ---- reading

-- this many bits of an octet, that in the lowest place first
unfoldable pub bits_of : ℕ → ℕ → List Bool
bits_of zero octet = []
bits_of (suc count) octet = (octet % 2 == 1) ∷ bits_of count (octet / 2)

-- a packet's fault is the frame's
abbrev pub fault_of : PacketFault → ChannelFault
fault_of packet_fault.Short = fault.Short
fault_of packet_fault.NotCanonical = fault.NotCanonical
fault_of packet_fault.BadLength = fault.BadLength
fault_of packet_fault.OutOfMemory = fault.OutOfMemory

abbrev pub carried_as : ℕ → Result PacketFields PacketFault → Result Content ChannelFault
carried_as octet (Ok packet) = Ok (content.Packet (record { channel = octet % 8; bit = nat_le 8 octet; packet = packet }))
carried_as octet (Err e) = Err (fault_of e)

-- a packet frame: its channel and bit, with nothing above them, and the packet to the end
abbrev pub packet_in : List ℕ → Result Content ChannelFault
packet_in [] = Err fault.Short
packet_in (octet ∷ body) = if nat_le 16 octet then Err fault.NotCanonical else carried_as octet (packets.read_of body)

-- an acknowledgement frame: nothing more
abbrev pub nothing_in : List ℕ → Result Content ChannelFault
nothing_in [] = Ok content.Nothing
nothing_in (octet ∷ rest) = Err fault.NotCanonical

-- a routes frame: a vector's distances, and nothing after them
abbrev pub routes_in : List ℕ → Result Content ChannelFault
routes_in rest =
    if nat_lt (length rest) most_imps
    then Err fault.Short
    else (if is_vector rest then Ok (content.Routes rest) else Err fault.NotCanonical)

-- what follows the acknowledgement bits of a frame of this kind: the first fault, or what the frame brings
abbrev pub content_of : ℕ → List ℕ → Result Content ChannelFault
content_of kind rest =
    if kind == 0 then packet_in rest
    else (if kind == 1 then nothing_in rest
    else (if kind == 2 then routes_in rest
    else Err fault.NotCanonical))

abbrev pub framed : List Bool → Result Content ChannelFault → Result Frame ChannelFault
framed acks (Ok brings) = Ok (record { acks = acks; content = brings })
framed acks (Err e) = Err e

-- how what follows the version is read: the first fault, or the frame
abbrev pub frame_in : List ℕ → Result Frame ChannelFault
frame_in [] = Err fault.Short
frame_in (kind ∷ []) = Err fault.Short
frame_in (kind ∷ acks ∷ rest) = framed (bits_of 8 acks) (content_of kind rest)

-- how octets are read: nothing of another version's is looked at
abbrev pub read_of : List ℕ → Result Frame ChannelFault
read_of [] = Err fault.Short
read_of (octet ∷ rest) = if octet == version then frame_in rest else Err fault.BadVersion

-- ---- what can be written

-- what a frame may bring: a packet by its format on one of eight channels, nothing, or the distances of a vector
abbrev pub Brings : Content → Type 0
Brings (content.Packet carried) = (carried.channel < 8) × IsPacket carried.packet
Brings content.Nothing = Unit {0}
Brings (content.Routes distances) = IsVector distances

-- the format of frames: what a frame may say
pub record IsFrame (f : Frame) : Type 0 where
  pub acks : length f.acks ≡ 8
  pub brings : Brings f.content

-- ---- memory

-- how many bits the packet of a packet frame says that it has; any other frame has none
abbrev pub packet_bits_in : ℕ → List ℕ → ℕ
packet_bits_in kind [] = 0
packet_bits_in kind (octet ∷ body) = if kind == 0 then packets.bit_count body else 0

-- the same of what follows the version, and of a frame's octets
abbrev pub packet_bits_after : List ℕ → ℕ
packet_bits_after [] = 0
packet_bits_after (kind ∷ []) = 0
packet_bits_after (kind ∷ acks ∷ rest) = packet_bits_in kind rest

abbrev pub packet_bits : List ℕ → ℕ
packet_bits [] = 0
packet_bits (octet ∷ rest) = packet_bits_after rest

-- a call that answers `said`; it can find no memory only where nothing else refuses it
abbrev pub Gives : {T : Type 0} → Result T ChannelFault → Result T ChannelFault → Type 0
Gives said (Ok x) = said ≡ Ok x
Gives said (Err fault.OutOfMemory) = IsOk said
Gives said (Err e) = said ≡ Err e
