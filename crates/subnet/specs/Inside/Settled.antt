-- A network in which a quiet round changes nothing: no frame is on a line, a packet in an IMP's store waits for a line without a free channel, and
-- where both ends of a line are up, each IMP heard last what the other would announce, and no packet waits for its acknowledgement. What is sent
-- again then goes to ends that are down, and is lost, and no channel becomes free.
use Rattle.std.specs.Prelude.{◌≡◌, ℕ, ◌<◌, ◌==◌, ◌&&◌, Bool, true, false, [], length, Option, Some, None, is_none, IfSome, position, slice_index_or}
use Rattle.std.specs.List.{list_all}
use Rattle.interface.specs.declared.event.Direction.{Direction}
use Rattle.interface.specs.declared.event.Direction.TheVariants as way
use Rattle.packetiser.specs.PacketFields.{PacketFields}
use Rattle.routing.specs.RouteTable.{next_of, vector_of}
use Rattle.imp_channel.specs.Holding.{packets_in}
use Rattle.imp_channel.specs.Line.{is_free}
use Rattle.imp_node.specs.Arrival.{ignored}
use Rattle.imp_node.specs.Pump.{pump, target}
use Rattle.imp_node.specs.State.{State, port_at}
use Rattle.subnet.specs.Net.{Net, Wire, imp_at, wire_at, port_of, frames_on, far_end}

abbrev pub other_way : Direction → Direction
other_way way.Forward = way.Back
other_way way.Back = way.Forward

-- the IMP that the frames of a directed line come from
abbrev pub near_end : Direction → Wire → ℕ
near_end d w = far_end (other_way d) w

-- no packet waits at an IMP's end of a line for its acknowledgement
abbrev pub IsFree : State → ℕ → Type 0
IsFree s p = length (packets_in (port_at s.ports p).line.sending) ≡ 0

-- an IMP heard last at its end of a line what the IMP at the other end would announce there
abbrev pub IsHeard : State → State → ℕ → Type 0
IsHeard s t q = slice_index_or t.routes.heard q None ≡ Some (vector_of s.routes)

-- nothing new goes from one end of a line to the other, or one of them is down
abbrev pub IsStill : Option State → ℕ → Option State → ℕ → Type 0
IsStill None p far q = Unit {0}
IsStill (Some s) p None q = Unit {0}
IsStill (Some s) p (Some t) q = (port_at s.ports p).up ≡ true → (port_at t.ports q).up ≡ true → IsHeard s t q × IsFree s p × IsFree t q

-- nothing new goes one way over a line
abbrev pub IsStillOn : Net → ℕ → Direction → Type 0
IsStillOn n l d =
    IsStill (imp_at n.imps (near_end d (wire_at n.lines l))) (port_of n.lines (near_end d (wire_at n.lines l)) l) (imp_at n.imps (far_end d (wire_at n.lines l))) (port_of n.lines (far_end d (wire_at n.lines l)) l)

-- no frame is on a line
abbrev pub is_silent : Wire → Bool
is_silent w = length w.forward == 0 && length w.back == 0

-- no channel of an IMP's end of a line is free
abbrev pub is_full_at : State → ℕ → Bool
is_full_at s k = is_none (position is_free (port_at s.ports k).line.sending)

-- the next line of a packet's route, if it has one, is such a line
abbrev pub is_stuck_by : State → Option ℕ → Bool
is_stuck_by s None = false
is_stuck_by s (Some k) = is_full_at s k

-- a packet that waits in an IMP can neither go nor be dropped
abbrev pub is_stuck : State → PacketFields → Bool
is_stuck s p = is_stuck_by s (next_of s.routes (target p))

-- and so each that waits there
abbrev pub only_waits : State → Bool
only_waits s = list_all (is_stuck s) s.store

-- an IMP is down, or all that waits in it is stuck
abbrev pub waits_at : Option State → Bool
waits_at None = true
waits_at (Some s) = only_waits s

pub record IsSettled (n : Net) : Type 0 where
  pub empty : (l : ℕ) (d : Direction) → frames_on d (wire_at n.lines l) ≡ []
  pub waits : (i : ℕ) → IfSome (imp_at n.imps i) (λ s. pump [] s ≡ ignored s)
  pub still : (l : ℕ) (d : Direction) → l < length n.lines → IsStillOn n l d
