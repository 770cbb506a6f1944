-- What a host knows of one other host.
use Rattle.std.specs.Prelude.{ℕ, Bool, false, not, ◌==◌, ◌&&◌, List, [], length}
use Rattle.ncp_control.specs.declared.command.Command.{Command}
use Rattle.ncp_control.specs.Phases.{is_closed}
use Rattle.host_pairs.specs.declared.entry.Entry.{Entry}
use Rattle.ncp_control.specs.declared.phase.Phase.{Phase}
use Rattle.ncp_control.specs.declared.phase.Phase.TheVariants as phase

-- this host and one peer: how far the reset has come, whether an RRP is owed, the links on which a message has no answer yet,
-- the ends of their connections, oldest first, and the commands that wait to go out
pub record PairState : Type 0 where
  pub phase : Phase
  pub owed : Bool
  pub busy : List ℕ
  pub entries : List Entry
  pub queue : List Command

-- a peer that was never spoken of is a closed pair that owes nothing
abbrev pub opening_pair : PairState
opening_pair = record { phase = phase.Closed; owed = false; busy = []; entries = []; queue = [] }

-- whether it is in the initial state
abbrev pub is_opening : PairState → Bool
is_opening q = is_closed q.phase && not q.owed && length q.busy == 0 && length q.entries == 0 && length q.queue == 0
