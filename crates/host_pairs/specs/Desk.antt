-- The connections of a pair, and what listens.
use Rattle.std.specs.Prelude.{ℕ, Bool, not, ◌==◌, List, [], ◌∷◌, ◌++◌, map, filter, find, Option}
use Rattle.std.specs.List.{list_any, flat_map}
use Rattle.interface.specs.Host.{Host}
use Rattle.ncp_control.specs.declared.command.Command.{Command}
use Rattle.host_pairs.specs.Entries.{must_close, closed_when, cls_of, is_over, ending}
use Rattle.host_pairs.specs.Pair.{PairState}
use Rattle.host_pairs.specs.declared.entry.Entry.{Entry}
use Rattle.host_pairs.specs.declared.notice.Notice.{Notice}
use Rattle.host_pairs.specs.declared.listener.Listener.{Listener}

-- ---- sockets

abbrev pub listener_on : ℕ → List Listener → Option Listener
listener_on socket listening = find (λ l. l.socket == socket) listening

abbrev pub listens_on : ℕ → List Listener → Bool
listens_on socket listening = list_any (λ l. l.socket == socket) listening

abbrev pub without_listener : ℕ → List Listener → List Listener
without_listener socket listening = filter (λ l. not (l.socket == socket)) listening

-- ---- the connections of a pair

-- what a command or a message of an opened pair may change, and the notices: nothing of the reset, and no link's answer
pub record DeskState : Type 0 where
  pub entries : List Entry
  pub queue : List Command
  pub listening : List Listener
  pub notices : List Notice

abbrev pub desk_of : PairState → List Listener → DeskState
desk_of q listening = record { entries = q.entries; queue = q.queue; listening = listening; notices = [] }

abbrev pub command_queued : Command → DeskState → DeskState
command_queued c d = record d { queue = d.queue ++ c ∷ [] }

abbrev pub desk_told : List Notice → DeskState → DeskState
desk_told notices d = record d { notices = d.notices ++ notices }

-- each end that has to close now queues its CLS
abbrev pub settled : List ℕ → DeskState → DeskState
settled busy d = record d {
  entries = map (λ e. closed_when (must_close busy e) e) d.entries;
  queue = d.queue ++ map cls_of (filter (must_close busy) d.entries);
}

-- each end that is over goes
abbrev pub swept : Host → DeskState → DeskState
swept peer d = record d {
  entries = filter (λ e. not (is_over e)) d.entries;
  notices = d.notices ++ flat_map (ending peer) (filter is_over d.entries);
}
