-- An IMP that sends its distances, or sends again, and does nothing else.
use Rattle.std.specs.Prelude.{◌≡◌, List, [], Option, Some, None}
use Rattle.routing.specs.RouteTable.{vector_of}
use Rattle.imp_node.specs.declared.outgoing.Outgoing.{Outgoing}
use Rattle.imp_node.specs.Lines.{told_from, route, resent_from, resend}
use Rattle.imp_node.specs.State.{State, ImpTurn}

-- the frames of an IMP that is up
abbrev pub frames_by_up : (State → List Outgoing) → Option State → List Outgoing
frames_by_up frames None = []
frames_by_up frames (Some s) = frames s

-- its turn has these frames, and changes nothing in it
abbrev pub OnlyPuts : (State → ImpTurn) → (State → List Outgoing) → Option State → Type 0
OnlyPuts turn frames None = Unit {0}
OnlyPuts turn frames (Some s) = turn s ≡ record { state = s; frames = frames s }

abbrev pub tells : State → List Outgoing
tells s = told_from (vector_of s.routes) 0 s.ports

-- what an IMP that is up announces, on each of its live ports
abbrev pub told : Option State → List Outgoing
told o = frames_by_up tells o

abbrev pub OnlyTells : Option State → Type 0
OnlyTells o = OnlyPuts route tells o

abbrev pub sends_again : State → List Outgoing
sends_again s = resent_from 0 s.ports

-- what an IMP that is up sends again, on each of its live ports
abbrev pub resent : Option State → List Outgoing
resent o = frames_by_up sends_again o

abbrev pub OnlyResends : Option State → Type 0
OnlyResends o = OnlyPuts resend sends_again o
