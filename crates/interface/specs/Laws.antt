-- The laws of src/ that are longer than a line: each is a record, and its fields are the clauses.
use Rattle.std.specs.Prelude.{Bool, List, [], true, ℕ, ◌∷◌, ◌≡◌}
use Rattle.interface.specs.Host.{Host, is_host}
use Rattle.interface.specs.Mailboxes.{Box, EachIsRun, IsRun, Waiting, WaitsWith, box_of, is_up, mail_of, opening_mail}
use Rattle.interface.specs.Mailboxes.{passed}
use Rattle.interface.specs.declared.address.Flow.{Flow}
use Rattle.interface.specs.declared.crossing.Answer.TheVariants as answer
use Rattle.interface.specs.declared.crossing.Crossing.TheVariants as crossing
use Rattle.interface.specs.declared.crossing.Crossing.{Crossing}
use Rattle.interface.specs.declared.message.HostMessage.{HostMessage}

-- A network may be looked at one flow at a time (BBN Report 1822: one message outstanding on a link).
pub record Mailboxes : Type 0 where
  -- if each flow's part of a log is a run of its own box and its two hosts, the log is a run
  pub flow_by_flow : (hosts : List Host) (log : List Crossing) → EachIsRun hosts log → IsRun hosts log
  -- the box of a text that waits is that of a message which waits, with this text
  pub waiting : (box : Box) (text : List Bool) → WaitsWith box text → (place : ℕ) × (box ≡ Waiting place text)
  -- a flow's own part of a log names its hosts and its box
  pub own_story :
      (hosts : List Host) (f : Flow) (log : List Crossing) →
      mail_of (opening_mail hosts f) (passed f log)
      ≡ record { source = is_up hosts f.source log; destination = is_up hosts f.destination log; box = box_of f log }

-- Logs that are runs: what the rules of the mailboxes allow.
pub record WorkedRuns : Type 0 where
  -- between two hosts of the network a message is answered by RFNM or Incomplete once it is taken
  pub taken :
      (hosts : List Host) (m : HostMessage) → is_host hosts m.flow.source ≡ true →
      is_host hosts m.flow.destination ≡ true →
      IsRun hosts (crossing.Answer answer.Rfnm m.flow ∷ crossing.In m ∷ crossing.Out m ∷ []) ×
      IsRun hosts (crossing.Answer answer.Incomplete m.flow ∷ crossing.In m ∷ crossing.Out m ∷ [])
  -- while it waits, it is answered by Dead or Incomplete
  pub waiting :
      (hosts : List Host) (m : HostMessage) → is_host hosts m.flow.source ≡ true →
      IsRun hosts (crossing.Answer answer.Dead m.flow ∷ crossing.Out m ∷ []) ×
      IsRun hosts (crossing.Answer answer.Incomplete m.flow ∷ crossing.Out m ∷ [])
  -- or by NotTaken, and then the flow's next message goes out and is taken
  pub not_taken :
      (hosts : List Host) (m : HostMessage) → is_host hosts m.flow.source ≡ true →
      is_host hosts m.flow.destination ≡ true →
      IsRun hosts (crossing.In m ∷ crossing.Out m ∷ crossing.Answer answer.NotTaken m.flow ∷ crossing.Out m ∷ [])
  -- a host of the network goes down, and comes up again
  pub restarted :
      (hosts : List Host) (h : Host) → is_host hosts h ≡ true → IsRun hosts (crossing.Up h ∷ crossing.Down h ∷ [])
