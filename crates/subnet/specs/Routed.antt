-- Distances are notified of the IMPs 1 to 63 and of no others: so no route leads elsewhere, and packets can name every host
-- to which one leads.
use Rattle.std.specs.Prelude.{ℕ, ◌+◌, ◌≤◌, ◌<◌, List, Option, Some, None, length, All}
use Rattle.bit_messages.specs.Body.{most_text_bits}
use Rattle.interface.specs.Host.{IsAddress, most_imps}
use Rattle.interface.specs.declared.message.HostMessage.{HostMessage}
use Rattle.imp_channel.specs.declared.frame.Content.{Content}
use Rattle.imp_channel.specs.declared.frame.Content.TheVariants as content
use Rattle.imp_channel.specs.declared.frame.Frame.{Frame}
use Rattle.routing.specs.Vector.{IsVector}
use Rattle.imp_node.specs.State.{State}
use Rattle.subnet.specs.Net.{Net, Wire}

-- the distances that a frame announces
abbrev pub TellsVector : Content → Type 0
TellsVector (content.Packet carried) = Unit {0}
TellsVector content.Nothing = Unit {0}
TellsVector (content.Routes distances) = IsVector distances

abbrev pub FrameTells : Frame → Type 0
FrameTells f = TellsVector f.content

pub record WireTells (w : Wire) : Type 0 where
  pub forward : All FrameTells w.forward
  pub back : All FrameTells w.back

-- those that an IMP heard
abbrev pub HeardVector : Option (List ℕ) → Type 0
HeardVector None = Unit {0}
HeardVector (Some distances) = IsVector distances

abbrev pub ImpHeard : Option State → Type 0
ImpHeard None = Unit {0}
ImpHeard (Some s) = All HeardVector s.routes.heard

pub record IsRouted (n : Net) : Type 0 where
  -- the IMPs have numbers from 1 to the greatest; no IMP has the number 0
  pub few : length n.imps ≤ most_imps + 1
  pub imps : All ImpHeard n.imps
  pub lines : All WireTells n.lines

-- what every message of a host is
pub record IsHostMessage (m : HostMessage) : Type 0 where
  pub source : IsAddress m.flow.source
  pub destination : IsAddress m.flow.destination
  pub link : m.flow.link.0 < 256
  pub text : length m.text ≤ most_text_bits
