-- Small frames and their octets, for the worked rows.
use Rattle.std.specs.Prelude.{ℕ, Bool, false, List, [], ◌∷◌, replicate}
use Rattle.packetiser.specs.Examples.{about_it}
use Rattle.packetiser.specs.declared.packet.PacketKind.TheVariants as kind
use Rattle.imp_channel.specs.declared.frame.Content.TheVariants as content
use Rattle.imp_channel.specs.declared.frame.Frame.{Frame}

-- the frame of an RFNM with this octet of its channel and bit, and no acknowledgement
abbrev pub packet_octets : ℕ → List ℕ
packet_octets channel = 242 ∷ 0 ∷ 0 ∷ channel ∷ 1 ∷ 1 ∷ 3 ∷ 5 ∷ 1 ∷ 2 ∷ 128 ∷ 0 ∷ 0 ∷ []

abbrev pub packet_frame : ℕ → Bool → Frame
packet_frame channel bit = record { acks = replicate 8 false; content = content.Packet (record { channel = channel; bit = bit; packet = about_it kind.Rfnm }) }
