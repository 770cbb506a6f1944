-- Which packets are in an IMP and in its frames after a call: those that were there, and those that the call makes.
use Rattle.std.specs.Prelude.{ℕ, List, [], ◌∷◌, ◌++◌, Option, Some, None, if◌then◌else◌}
use Rattle.std.specs.List.{flat_map}
use Rattle.bit_messages.specs.Body.{body}
use Rattle.interface.specs.declared.address.Flow.{Flow}
use Rattle.interface.specs.declared.message.HostMessage.{HostMessage}
use Rattle.packetiser.specs.PacketFields.{PacketFields, flow_of}
use Rattle.packetiser.specs.Pieces.{packets_of}
use Rattle.packetiser.specs.Rejoining.{AreAmong}
use Rattle.packetiser.specs.declared.packet.PacketKind.{PacketKind}
use Rattle.packetiser.specs.declared.packet.PacketKind.TheVariants as kind
use Rattle.imp_channel.specs.Holding.{carried_by}
use Rattle.imp_channel.specs.declared.frame.Frame.{Frame}
use Rattle.imp_node.specs.declared.waiting.Message.{Message}
use Rattle.imp_node.specs.declared.waiting.Told.{Told}
use Rattle.imp_node.specs.State.{State, ImpTurn, host_at}
use Rattle.imp_node.specs.Flows.{answer_packet, next_number}
use Rattle.imp_node.specs.Queries.{outstanding}
use Rattle.imp_node.specs.Offering.{Way, Nowhere, Here, Away, way_of}
use Rattle.imp_node.specs.Arrival.{Arrival, Passing, Old, Undeliverable, Replying, Piece, NoSlot, Whole, Unmarked, Answering, arrival}
use Rattle.imp_node.specs.Taking.{is_from_here}
use Rattle.imp_node.specs.Contents.{packets, turn_packets}

-- after this turn of an IMP nothing is in it and in its frames but what was in it and these packets
abbrev pub Leaves : State → List PacketFields → ImpTurn → Type 0
Leaves s made turn = AreAmong (turn_packets turn) (packets s ++ made)

-- a message that goes over lines is cut into its packets
abbrev pub cut_for : Way → State → HostMessage → List PacketFields
cut_for Nowhere s m = []
cut_for Here s m = []
cut_for Away s m = packets_of m.flow (next_number s m.flow) (body m.text)

abbrev pub from_host_makes : State → HostMessage → List PacketFields
from_host_makes s m = cut_for (way_of s m.flow) s m

-- a piece that can't be delivered gives Dead, and a question gives the answer to it
abbrev pub told_for : Arrival → PacketFields → List PacketFields
told_for (Undeliverable new told) p = answer_packet told (flow_of p) p.number ∷ []
told_for (Replying told) p = answer_packet told (flow_of p) p.number ∷ []
told_for Passing p = []
told_for Old p = []
told_for Piece p = []
told_for NoSlot p = []
told_for (Whole text) p = []
told_for Unmarked p = []
told_for (Answering answer) p = []

-- a frame brings its packet, and what that makes
abbrev pub from_line_makes : State → Frame → List PacketFields
from_line_makes s f = flat_map (λ p. p ∷ told_for (arrival s p) p) (carried_by f.content)

-- an answer to a message that waited here is a packet where its source is at another IMP
abbrev pub reply_for : PacketKind → State → Message → List PacketFields
reply_for packet s m = if is_from_here s m then [] else answer_packet packet m.flow m.number ∷ []

-- a message that is taken gives its RFNM
abbrev pub rfnm_for : State → List Told → List Message → List PacketFields
rfnm_for s (told ∷ others) queue = []
rfnm_for s [] (m ∷ others) = reply_for kind.Rfnm s m
rfnm_for s [] [] = []

abbrev pub to_host_makes : State → ℕ → List PacketFields
to_host_makes s h = rfnm_for s (host_at s h).answers (host_at s h).queue

-- each message that waited for a host that goes down gives Dead
abbrev pub host_down_makes : State → ℕ → List PacketFields
host_down_makes s h = flat_map (reply_for kind.Dead s) (host_at s h).queue

-- a question about the outstanding message, if there is one
abbrev pub question_for : Option ℕ → Flow → List PacketFields
question_for None f = []
question_for (Some n) f = answer_packet kind.Ask f n ∷ []

abbrev pub ask_makes : State → Flow → List PacketFields
ask_makes s f = question_for (outstanding s f) f
