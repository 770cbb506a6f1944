-- Which packets are in a subnet after an event: those that were in it, and those that the event makes.
use Rattle.std.specs.Prelude.{ℕ, List, [], ◌++◌, Option, Some, None, slice_get}
use Rattle.std.specs.List.{flat_map}
use Rattle.interface.specs.Host.{Host}
use Rattle.interface.specs.declared.address.Flow.{Flow}
use Rattle.interface.specs.declared.event.Direction.{Direction}
use Rattle.interface.specs.declared.message.HostMessage.{HostMessage}
use Rattle.packetiser.specs.PacketFields.{PacketFields}
use Rattle.packetiser.specs.Rejoining.{AreAmong}
use Rattle.imp_channel.specs.Holding.{carried_by}
use Rattle.imp_channel.specs.declared.frame.Frame.{Frame}
use Rattle.imp_node.specs.State.{State}
use Rattle.imp_node.specs.Arrival.{arrival}
use Rattle.imp_node.specs.Making.{told_for, ask_makes, from_host_makes, to_host_makes, host_down_makes}
use Rattle.subnet.specs.Net.{Net, imp_at, wire_at, frames_on, far_end}
use Rattle.subnet.specs.Alive.{packets}

-- nothing is in the new subnet but what was in the old one
abbrev pub NothingNew : Net → Net → Type 0
NothingNew old new = AreAmong (packets new) (packets old)

-- nothing is in the new subnet but what was in the old one and these packets
abbrev pub OnlyNew : Net → List PacketFields → Net → Type 0
OnlyNew old made new = AreAmong (packets new) (packets old ++ made)

-- what an IMP makes, if it is up
abbrev pub made_at : Option State → (State → List PacketFields) → List PacketFields
made_at None makes = []
made_at (Some s) makes = makes s

-- a message that goes over lines is cut into its packets
abbrev pub offer_makes : Net → HostMessage → List PacketFields
offer_makes n m = made_at (imp_at n.imps m.flow.source.imp) (λ s. from_host_makes s m)

-- a message that is taken gives an RFNM
abbrev pub take_makes : Net → Host → List PacketFields
take_makes n h = made_at (imp_at n.imps h.imp) (λ s. to_host_makes s h.host)

-- a question about an outstanding message is a packet, where the destination is at another IMP
abbrev pub asking_makes : Net → Flow → List PacketFields
asking_makes n f = made_at (imp_at n.imps f.source.imp) (λ s. ask_makes s f)

-- each message that waits for a host that goes down gives Dead
abbrev pub stop_makes : Net → Host → List PacketFields
stop_makes n h = made_at (imp_at n.imps h.imp) (λ s. host_down_makes s h.host)

-- a piece for a host that is down or not there gives Dead, and a question gives the answer to it
abbrev pub told_made : Frame → State → List PacketFields
told_made f s = flat_map (λ p. told_for (arrival s p) p) (carried_by f.content)

abbrev pub frame_makes : Option State → Option Frame → List PacketFields
frame_makes o None = []
frame_makes o (Some f) = made_at o (told_made f)

abbrev pub deliver_makes : Net → ℕ → Direction → ℕ → List PacketFields
deliver_makes n l d k = frame_makes (imp_at n.imps (far_end d (wire_at n.lines l))) (slice_get (frames_on d (wire_at n.lines l)) k)
