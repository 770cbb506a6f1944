-- Which packets an end holds, and which a frame carries.
use Rattle.std.specs.Prelude.{Bool, List, [], ◌∷◌, ◌++◌, Option, None, Some}
use Rattle.packetiser.specs.PacketFields.{PacketFields}
use Rattle.imp_channel.specs.declared.channel.Channel.{Channel}
use Rattle.imp_channel.specs.declared.frame.Content.{Content}
use Rattle.imp_channel.specs.declared.frame.Content.TheVariants as content
use Rattle.imp_channel.specs.declared.frame.Frame.{Frame}

-- the packet that a busy channel holds; a free one holds none
abbrev pub packet_of : Option PacketFields → List PacketFields
packet_of None = []
packet_of (Some packet) = packet ∷ []

-- the packets of the busy channels, in channel order
abbrev pub packets_in : List Channel → List PacketFields
packets_in [] = []
packets_in (channel ∷ rest) = packet_of channel.packet ++ packets_in rest

-- the packet that a frame with this content carries; an acknowledgement or routes frame carries none
abbrev pub carried_by : Content → List PacketFields
carried_by (content.Packet carried) = carried.packet ∷ []
carried_by content.Nothing = []
carried_by (content.Routes distances) = []

-- the packets that frames carry, in their order
abbrev pub carried_by_all : List Frame → List PacketFields
carried_by_all [] = []
carried_by_all (frame ∷ rest) = carried_by frame.content ++ carried_by_all rest

-- the bits of the packet that a frame with this content carries: only these need memory where a frame is copied
abbrev pub bits_carried : Content → List Bool
bits_carried (content.Packet carried) = carried.packet.bits
bits_carried content.Nothing = []
bits_carried (content.Routes distances) = []
