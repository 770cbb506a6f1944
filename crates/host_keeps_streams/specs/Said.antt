-- What a host reports to its user and says to its peer of a stream.
use Rattle.std.specs.Prelude.{◌≡◌, ℕ, ◌==◌, Bool, false, if◌then◌else◌, List, [], ◌∷◌, Option, Some}
use Rattle.ncp_control.specs.declared.command.Command.{Command}
use Rattle.ncp_control.specs.declared.command.Command.TheVariants as command
use Rattle.stream_law.specs.Words.{Word, Ret}
use Rattle.host_pairs.specs.declared.notice.Notice.{Notice}
use Rattle.host_pairs.specs.declared.notice.Notice.TheVariants as notice

-- the messages that a user is notified of as taken, the first first
abbrev pub arrivals : List Notice → List (List Bool)
arrivals [] = []
arrivals (notice.Arrived socket bits ∷ ns) = bits ∷ arrivals ns
arrivals (n ∷ ns) = arrivals ns

-- what commands return on a link
abbrev pub returned_on : ℕ → List Command → List (ℕ × ℕ)
returned_on link [] = []
returned_on link (command.Ret l messages bits ∷ cs) = if l == link then (messages, bits) ∷ returned_on link cs else returned_on link cs
returned_on link (c ∷ cs) = returned_on link cs

-- and what the law's sender returns
abbrev pub returned_in : Option Word → List (ℕ × ℕ)
returned_in (Some (Ret c messages bits)) = (messages, bits) ∷ []
returned_in w = []

-- a command of the peer that changes no end of this host that receives on the link, except for requests and CLS, which may
abbrev pub LeavesReceiver : ℕ → Command → Type 0
LeavesReceiver link (command.Rts receive send l) = ⊥
LeavesReceiver link (command.Str send receive size) = ⊥
LeavesReceiver link (command.Cls own foreign) = ⊥
LeavesReceiver link (command.Ret l messages bits) = (l == link) ≡ false
LeavesReceiver link c = Unit {0}

-- and none that sends on it
abbrev pub LeavesSender : ℕ → Command → Type 0
LeavesSender link (command.Rts receive send l) = ⊥
LeavesSender link (command.Str send receive size) = ⊥
LeavesSender link (command.Cls own foreign) = ⊥
LeavesSender link (command.All l messages bits) = (l == link) ≡ false
LeavesSender link (command.Gvb l messages bits) = (l == link) ≡ false
LeavesSender link c = Unit {0}
