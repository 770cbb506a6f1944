-- What happens to all hosts in one list, the crossings and what users ask for, and the programs and events that come of it.
-- The list is read newest first.
use Rattle.std.specs.Prelude.{◌≡◌, ℕ, ◌+◌, true, false, if◌then◌else◌, List, [], ◌∷◌, map, Some, is_some}
use Rattle.interface.specs.Host.{Host, same_host}
use Rattle.interface.specs.declared.crossing.Crossing.{Crossing}
use Rattle.interface.specs.declared.crossing.Crossing.TheVariants as crossing
use Rattle.interface.specs.declared.crossing.Inbound.TheVariants as inbound
use Rattle.interface.specs.declared.message.HostMessage.{HostMessage}
use Rattle.sockets.specs.Accepting.{accepted}
use Rattle.sockets.specs.Pairs.{NcpState, opening_state, pair_with}
use Rattle.sockets.specs.Peers.{AreInOrder}
use Rattle.sockets.specs.Requests.{served}
use Rattle.host_pairs.specs.Parcels.{Parcel}
use Rattle.sockets.specs.Sending.{message_for, next_in, offered}
use Rattle.sockets.specs.declared.peer.Peer.{Peer}
use Rattle.sockets.specs.declared.request.Request.{Request}
use Rattle.reset_law.specs.Events.{Event}
use Rattle.reset_law.specs.Pairs.{pair}
use Rattle.net_sim.specs.Projection.{Agrees, IsApart, message_on, event_of, event_by}
use Rattle.reset_law.specs.Network.{AreOurs, Network}

-- something crosses, or the user of a host asks for something and isn't refused
pub data Moment : Type 0 where
  Crossed : Crossing → Moment
  Asked : Host → Request → Moment

-- how many crossings there were
abbrev pub places : List Moment → ℕ
places [] = 0
places (Crossed c ∷ moments) = 1 + places moments
places (Asked h r ∷ moments) = places moments

abbrev pub event_in : Moment → Event
event_in (Crossed c) = event_of c
event_in (Asked h r) = event_by h r

-- the same as the law of resets sees it
abbrev pub events_of : List Moment → List Event
events_of moments = map event_in moments

-- a host's program after one moment more
abbrev pub program_after : Host → ℕ → Moment → NcpState → NcpState
program_after a here (Crossed (crossing.Out m)) s = if same_host a m.flow.source then (offered s here).0 else s
program_after a here (Crossed (crossing.In m)) s = if same_host a m.flow.destination then (accepted s (inbound.Message m) here).0 else s
program_after a here (Crossed (crossing.Answer kind f)) s = if same_host a f.source then (accepted s (inbound.Answer kind f) here).0 else s
program_after a here (Crossed (crossing.Down h)) s = if same_host a h then opening_state a else s
program_after a here (Crossed (crossing.Up h)) s = if same_host a h then opening_state a else s
program_after a here (Asked h r) s = if same_host a h then served s r else s

abbrev pub program : Host → List Moment → NcpState
program a [] = opening_state a
program a (x ∷ moments) = program_after a (places moments) x (program a moments)

-- after these moments host `a`'s program is, for its peer `b`, where the law of resets has it
abbrev pub AgreesAfter : List Moment → Host → Host → Type 0
AgreesAfter moments a b = Agrees (pair_with b (program a moments).peers) (pair a b (events_of moments))

-- what goes out is what its host's program says next
pub record IsNext (s : NcpState) (m : HostMessage) : Type 0 where
  pub peer : Peer
  pub parcel : Parcel
  pub order : AreInOrder s.peers
  pub next : next_in s.peers ≡ Some (peer, parcel)
  pub message : m ≡ message_for s.own peer parcel

-- what a moment asks of those before it: what goes out of a host with a program is what the program says, and between two of them
-- what is taken has RST and RRP only or neither, and an answer is about a message that is outstanding
abbrev pub Follows : Network → Moment → List Moment → Type 0
Follows hosts (Crossed (crossing.Out m)) moments = hosts.strange m.flow.source ≡ false → IsNext (program m.flow.source moments) m
Follows hosts (Crossed (crossing.In m)) moments = AreOurs hosts m.flow.source m.flow.destination → IsApart m.flow.link.0 m.text (message_on m.flow.link.0 m.text)
Follows hosts (Crossed (crossing.Answer kind f)) moments =
    AreOurs hosts f.source f.destination → is_some ((pair f.source f.destination (events_of moments)).out f.link.0) ≡ true
Follows hosts x moments = Unit {0}

abbrev pub IsStory : Network → List Moment → Type 0
IsStory hosts [] = Unit {0}
IsStory hosts (x ∷ moments) = Follows hosts x moments × IsStory hosts moments
