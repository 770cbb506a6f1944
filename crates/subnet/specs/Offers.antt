-- What packets can carry of a message that a host offers.
use Rattle.std.specs.Prelude.{◌≤◌, ◌<◌, Option, Some, None, length}
use Rattle.bit_messages.specs.Body.{most_text_bits}
use Rattle.interface.specs.declared.message.HostMessage.{HostMessage}
use Rattle.packetiser.specs.PacketFields.{IsPacketHost}
use Rattle.imp_node.specs.State.{State}
use Rattle.imp_node.specs.Offering.{Way, Nowhere, Here, Away, way_of}

-- packets can name a message's hosts and its link, and its text is not too long for them
pub record IsCarriable (m : HostMessage) : Type 0 where
  pub source : IsPacketHost m.flow.source
  pub destination : IsPacketHost m.flow.destination
  pub link : m.flow.link.0 < 256
  pub text : length m.text ≤ most_text_bits

-- a message that goes nowhere need not be so
abbrev pub CanGo : Way → HostMessage → Type 0
CanGo Nowhere m = Unit {0}
CanGo Here m = IsCarriable m
CanGo Away m = IsCarriable m

-- at its IMP, if that is up
abbrev pub CanGoFrom : Option State → HostMessage → Type 0
CanGoFrom None m = Unit {0}
CanGoFrom (Some s) m = CanGo (way_of s m.flow) m
