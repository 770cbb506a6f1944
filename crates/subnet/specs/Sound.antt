-- What holds of a subnet after every event that keeps it sound.
use Rattle.std.specs.Prelude.{◌≡◌, ℕ, Option, Some, None, All}
use Rattle.interface.specs.declared.address.Flow.{Flow}
use Rattle.packetiser.specs.PacketFields.{IsPacket}
use Rattle.packetiser.specs.declared.packet.PacketKind.TheVariants as kind
use Rattle.flow_law.specs.Follows.{AllSound}
use Rattle.imp_node.specs.State.{State}
use Rattle.imp_node.specs.Flows.{answer_packet}
use Rattle.imp_node.specs.Sides.{IsImp}
use Rattle.subnet.specs.Net.{Net, imp_at}
use Rattle.subnet.specs.Alive.{packets, messages}
use Rattle.subnet.specs.Flows.{Piece, Alive, view}

-- an IMP that is up, at the place of its number
abbrev pub IsAt : ℕ → Option State → Type 0
IsAt i None = Unit {0}
IsAt i (Some s) = IsImp i s

pub record IsSound (n : Net) : Type 0 where
  -- what was seen of each flow is a run of its mailbox, and the law of one flow holds of what is now
  pub flows : AllSound Piece n.hosts n.log (view n) (Alive n)
  -- each IMP that is up has its number, and answers and messages wait at their hosts
  pub imps : (i : ℕ) → IsAt i (imp_at n.imps i)
  -- packets are by the format, and so is the answer to each message that waits
  pub formats : All IsPacket (packets n)
  pub answers : All (λ m. IsPacket (answer_packet kind.Rfnm m.flow m.number)) (messages n)
  -- and so is a packet about each message that is outstanding: its source's IMP could ask about it
  pub askable : (f : Flow) (number : ℕ) → (view n f).outstanding ≡ Some number → IsPacket (answer_packet kind.Rfnm f number)
