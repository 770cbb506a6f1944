-- A flow within one IMP, and a host that writes to itself: what their IMP does at once is a short list of moves.
--
-- Such a flow has no packets on lines. Its message is queued as it is begun (`BeginLocal`), and its answer is given in the
-- same step: seen as moves, the answer's packet is made, heard and gone.
use Rattle.std.specs.Prelude.{ℕ, Bool, true, false, List, [], ◌∷◌, ◌++◌, None, if◌then◌else◌}
use Rattle.interface.specs.declared.crossing.Answer.TheVariants as answer
use Rattle.interface.specs.Mailboxes.{Box, fetched}
use Rattle.link_table.specs.declared.destination.Fate.TheVariants as fate
use Rattle.flow_law.specs.View.{View, Packet, Queued, Kind}
use Rattle.flow_law.specs.Moves.{Move, with_answer, with_fate, with_fates}

-- the packet that notifies the source of what became of the message with this number: one packet without bits, and so the last
abbrev pub answer_packet : Kind → ℕ → Packet
answer_packet kind number = record { kind = kind; number = number; place = 0; last = true; bits = [] }

-- the destination takes its oldest message, and the source gets RFNM
abbrev pub taken_here : Queued → List Queued → List Move
taken_here oldest others = Move.Freed (answer_packet Kind.Rfnm oldest.number) answer.Rfnm ∷ Move.TakeMessage oldest others ∷ []

abbrev pub view_taken_here : Queued → List Queued → View → View
view_taken_here oldest others v = record v { fate = with_fate v.kept oldest.number fate.Taken v.fate; queue = others; box = fetched v.box; outstanding = None; answers = with_answer v.source answer.Rfnm v.answers }

-- a host goes down that is the source of a flow or not, and its destination or not: as the source first, so that no answer
-- waits for it
abbrev pub stopped_host : Bool → Bool → List Move
stopped_host source destination = (if destination then Move.StopDestination ∷ [] else []) ++ (if source then Move.StopSource ∷ [] else [])

-- a host comes up that is the source of a flow or not, and its destination or not
abbrev pub started_host : Bool → Bool → List Move
started_host source destination = (if destination then Move.StartDestination ∷ [] else []) ++ (if source then Move.StartSource ∷ [] else [])

-- the same, and the source of this queued message gets Dead at once
abbrev pub stopped_host_queued : Bool → Queued → List Move
stopped_host_queued source message = Move.Freed (answer_packet Kind.Dead message.number) answer.Dead ∷ stopped_host source true

-- the destination of a queued message went down, and its source is another host
abbrev pub view_stopped_here : View → View
view_stopped_here v = record v { destination = false; fate = with_fates v.kept v.queue fate.Dead v.fate; queue = []; outstanding = None; answers = with_answer v.source answer.Dead v.answers }

-- a host that writes to itself went down while a message to itself was queued
abbrev pub view_stopped_itself : View → View
view_stopped_itself v = record v { source = false; destination = false; fate = with_fates v.kept v.queue fate.Dead v.fate; queue = []; outstanding = None; answers = [] }

-- a host that writes to itself went down while no message was queued
abbrev pub view_stopped_unread : View → View
view_stopped_unread v = record v { source = false; destination = false; fate = with_fates v.kept v.queue fate.Dead v.fate; queue = []; answers = [] }

-- a host that writes to itself came up
abbrev pub view_started_itself : View → View
view_started_itself v = record v { source = true; destination = true; box = Box.Empty }
