-- How much more a pair has to say than before, to the peer or to the user: only then it needs memory.
use Rattle.std.specs.Prelude.{ℕ, ◌+◌, ◌-◌, ◌==◌, Bool, if◌then◌else◌, List, [], ◌∷◌, length}
use Rattle.interface.specs.Host.{Host}
use Rattle.interface.specs.declared.crossing.Answer.{Answer}
use Rattle.host_pairs.specs.Turn.{TurnState, order_taken, if_ready, answered_turn}
use Rattle.host_pairs.specs.Control.{Order, orders_of}
use Rattle.host_pairs.specs.Data.{data_taken}
use Rattle.host_pairs.specs.Desk.{DeskState}

-- how much waits to be said, to the peer and to the user
abbrev pub said : DeskState → ℕ
said d = length d.queue + length d.notices

-- how much is newly said, to the peer and to the user. A reset leaves less to be said to the peer
abbrev pub newly_said : TurnState → TurnState → ℕ
newly_said old new = (length new.pair.queue - length old.pair.queue) + (length new.notices - length old.notices)

-- how much these orders have said, one after another
abbrev pub said_by : Host → ℕ → List Order → TurnState → ℕ
said_by peer stamp [] t = 0
said_by peer stamp (o ∷ os) t = newly_said t (order_taken peer stamp o t) + said_by peer stamp os (order_taken peer stamp o t)

-- how much a message has said
abbrev pub said_by_message : Host → ℕ → ℕ → List Bool → TurnState → ℕ
said_by_message peer stamp link text t =
    if link == 0 then said_by peer stamp (orders_of text) t
    else newly_said t (if_ready (data_taken link text) t)

-- how much an answer has said
abbrev pub said_by_answer : Host → Answer → ℕ → TurnState → ℕ
said_by_answer peer kind link t = newly_said t (answered_turn peer kind link t)
