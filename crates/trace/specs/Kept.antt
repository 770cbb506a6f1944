-- What the parts of plain mailboxes leave out: nothing, in states that a replay comes to.
use Rattle.std.specs.Prelude.{◌≡◌, ◌≢◌, false, List, [], Some}
use Rattle.std.specs.FinMap as map
use Rattle.std.specs.List.{All}
use Rattle.leader1822.specs.Boxes.{Boxes, Queues, WaitingAnswer, for_host}
use Rattle.interface.specs.Host.{Host, is_host}
use Rattle.script.specs.Spelling.{IsFlow, IsHost, IsMessage}

-- the queues are of hosts of the network only, each holds something, and what it holds is valid
pub record AreQueues {A : Type 0} (IsValid : A → Type 0) (hosts : List Host) (queues : Queues A) : Type 0 where
  pub of_hosts : (h : Host) → is_host hosts h ≡ false → for_host queues h ≡ []
  pub filled : (h : Host) → map.get queues h ≢ Some []
  pub valid : (h : Host) → All IsValid (for_host queues h)

abbrev pub IsValidAnswer : WaitingAnswer → Type 0
IsValidAnswer a = IsFlow a.1

-- memory has not run out, and all that waits and all that is down can be named
pub record IsTold (b : Boxes) : Type 0 where
  pub running : b.stopped ≡ false
  pub down : All IsHost b.down
  pub messages : AreQueues IsMessage b.hosts b.messages
  pub answers : AreQueues IsValidAnswer b.hosts b.answers
