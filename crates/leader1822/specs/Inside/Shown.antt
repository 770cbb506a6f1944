-- How the kept queues are read.
use Rattle.std.specs.Prelude.{List, [], ◌∷◌, Option, Some, None}
use Rattle.std.specs.declared.collections.VecDeque.{VecDeque}
use Rattle.std.specs.VecDeque.{deque_items}
use Rattle.std.specs.FinMap as map
use Rattle.interface.specs.Host.{Host}
use Rattle.leader1822.specs.Boxes.{Queues, with_queue}

-- the queues of these entries: of two for one host the first counts
abbrev pub shown : {A Z : Type 0} → List (Host × VecDeque A Z) → Queues A
shown [] = map.empty
shown (e ∷ es) = with_queue (shown es) e.0 (deque_items e.1)

-- what waits in a queue that may be there
abbrev pub waiting_in : {A Z : Type 0} → Option (VecDeque A Z) → List A
waiting_in None = []
waiting_in (Some queue) = deque_items queue
