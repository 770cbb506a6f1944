-- Counterexamples: machines that lack one need of one move each, and for each a history that is no run of the mailbox.
-- The law of a flow does not rest on them. They show which of its needs keep the mailbox.
use Rattle.std.specs.Prelude.{◌≡◌, ◌≢◌, ℕ, zero, suc, ◌-◌, Bool, true, false, List, [], ◌∷◌, Some, None}
use Rattle.std.specs.List.{Contains}
use Rattle.interface.specs.declared.crossing.Answer.TheVariants as answer
use Rattle.interface.specs.Mailboxes.{IsFlowRun}
use Rattle.link_table.specs.Numbers.{modulus, window, is_new}
use Rattle.link_table.specs.declared.destination.Fate.TheVariants as fate
use Rattle.flow_law.specs.View.{View, Packet, Queued, Kind, is_request, mail_now}
use Rattle.flow_law.specs.Moves.{Move, Needs, New, CanOffer, CanNote, Brings, IsLost, Tells, NumberFree, Joined, next_number, queued_text}
use Rattle.flow_law.specs.Runs.{FlowTurn, IsHistoryBy, seen_in}
use Rattle.flow_law.specs.Local.{answer_packet}
use Rattle.flow_law.specs.Example.{at_first, first_text, InOnePacket}

-- what its moves need makes a machine
abbrev pub Machine : Type 1
Machine = Move → View → (Packet → Type 0) → Type 0

-- a machine has a history whose last crossing its mailbox doesn't allow
pub record Breaks (Asks : Machine) (turns : List FlowTurn) : Type 0 where
  pub history : IsHistoryBy Asks InOnePacket at_first turns
  pub broken : IsFlowRun (mail_now at_first) (seen_in turns at_first) → ⊥

abbrev pub turn : Move → List Packet → FlowTurn
turn move left = record { move = move; left = left }

-- another text
abbrev pub second_text : List Bool
second_text = false ∷ []

-- the one packet of a message
abbrev pub data_of : ℕ → List Bool → Packet
data_of number bits = record { kind = Kind.Data; number = number; place = 0; last = true; bits = bits }

abbrev pub rfnm_of : ℕ → Packet
rfnm_of = answer_packet Kind.Rfnm

abbrev pub dead_of : ℕ → Packet
dead_of = answer_packet Kind.Dead

abbrev pub never_of : ℕ → Packet
never_of = answer_packet Kind.Never

-- a question about the message of this number
abbrev pub ask_of : ℕ → Packet
ask_of = answer_packet Kind.Ask

-- the first message, and its packet
abbrev pub begun : FlowTurn
begun = turn (Move.Begin 0 first_text) (data_of 0 first_text ∷ [])

abbrev pub begun_local : FlowTurn
begun_local = turn (Move.BeginLocal 0 first_text) []

-- made whole, and a copy of its packet stays
abbrev pub made_whole : FlowTurn
made_whole = turn (Move.Whole (data_of 0 first_text) first_text) (data_of 0 first_text ∷ [])

-- taken, with these packets left
abbrev pub taken_turn : List Packet → FlowTurn
taken_turn left = turn (Move.TakeMessage (queued_text 0 first_text) []) left

-- ---- offers

-- a host that is down offers a message
abbrev pub OffersDown : Machine
OffersDown (Move.DeadNow place text) v alive = (v.outstanding ≡ None) × (v.answers ≡ [])
OffersDown m v alive = Needs InOnePacket m v alive

abbrev pub offers_down : List FlowTurn
offers_down = turn (Move.DeadNow 0 first_text) [] ∷ turn Move.StopSource [] ∷ []

-- a message is begun while another is outstanding
abbrev pub NotIdle : Machine
NotIdle (Move.Begin place text) v alive = (v.source ≡ true) × (v.answers ≡ []) × NumberFree v alive × (v.kept ≢ Some (next_number v.last))
NotIdle m v alive = Needs InOnePacket m v alive

abbrev pub not_idle : List FlowTurn
not_idle = turn (Move.Begin 1 first_text) [] ∷ begun ∷ []

-- a message is offered while an answer waits
abbrev pub NotAnswered : Machine
NotAnswered (Move.DeadNow place text) v alive = (v.source ≡ true) × (v.outstanding ≡ None)
NotAnswered m v alive = Needs InOnePacket m v alive

abbrev pub not_answered : List FlowTurn
not_answered = turn (Move.DeadNow 1 first_text) [] ∷ turn (Move.DeadNow 0 first_text) [] ∷ []

-- a number is begun without looking at what is alive
abbrev pub AnyNumber : Machine
AnyNumber (Move.Begin place text) v alive = CanOffer v × (v.kept ≢ Some (next_number v.last))
AnyNumber m v alive = Needs InOnePacket m v alive

-- each message from 0 to n is noted without being taken and answered by Dead, while a copy of the first one's packet stays
unfoldable pub rounds : ℕ → List FlowTurn
rounds zero =
    turn (Move.TakeAnswer answer.Dead []) (data_of 0 first_text ∷ [])
    ∷ turn (Move.Freed (dead_of 0) answer.Dead) (data_of 0 first_text ∷ [])
    ∷ turn (Move.NoteGone (data_of 0 first_text) fate.Dead) (dead_of 0 ∷ data_of 0 first_text ∷ [])
    ∷ begun
    ∷ []
rounds (suc n) =
    turn (Move.TakeAnswer answer.Dead []) (data_of 0 first_text ∷ [])
    ∷ turn (Move.Freed (dead_of (suc n)) answer.Dead) (data_of 0 first_text ∷ [])
    ∷ turn (Move.NoteGone (data_of (suc n) second_text) fate.Dead) (dead_of (suc n) ∷ data_of 0 first_text ∷ [])
    ∷ turn (Move.Begin 0 second_text) (data_of (suc n) second_text ∷ data_of 0 first_text ∷ [])
    ∷ rounds n

-- when the number after n was noted the copy is made whole, and its text is taken in the place of the new one
abbrev pub outlived : ℕ → List FlowTurn
outlived n =
    taken_turn []
    ∷ turn (Move.Whole (data_of 0 first_text) first_text) []
    ∷ turn (Move.NoteGone (data_of (suc n) second_text) fate.Dead) (data_of 0 first_text ∷ [])
    ∷ turn (Move.Begin 0 second_text) (data_of (suc n) second_text ∷ data_of 0 first_text ∷ [])
    ∷ rounds n

-- the copy is new again as soon as it lies a window's width ahead: there the number after this one is noted
abbrev pub before_new_again : ℕ
before_new_again = modulus - window - 1

abbrev pub any_number : List FlowTurn
any_number = outlived before_new_again

-- a number is begun that is the one noted last
abbrev pub BeginsKept : Machine
BeginsKept (Move.Begin place text) v alive = CanOffer v × NumberFree v alive
BeginsKept m v alive = Needs InOnePacket m v alive

-- message 0 is taken and answered, and each one after it up to n is lost and given up
unfoldable pub given_up_to : ℕ → List FlowTurn
given_up_to zero =
    turn (Move.TakeAnswer answer.Rfnm []) []
    ∷ turn (Move.Freed (rfnm_of 0) answer.Rfnm) []
    ∷ taken_turn (rfnm_of 0 ∷ [])
    ∷ begun_local
    ∷ []
given_up_to (suc n) =
    turn (Move.TakeAnswer answer.Incomplete []) []
    ∷ turn (Move.GiveUp (suc n)) []
    ∷ turn (Move.Begin 0 second_text) []
    ∷ given_up_to n

-- after number n comes number 0 again, which is noted as taken: a question about the new message is answered by RFNM
abbrev pub asked_after : ℕ → List FlowTurn
asked_after n =
    turn (Move.TakeAnswer answer.Rfnm []) []
    ∷ turn (Move.Freed (rfnm_of 0) answer.Rfnm) []
    ∷ turn (Move.Reply (ask_of 0) Kind.Rfnm) (rfnm_of 0 ∷ [])
    ∷ turn (Move.Asks 0) (ask_of 0 ∷ [])
    ∷ turn (Move.Begin 0 second_text) []
    ∷ given_up_to n

abbrev pub begins_kept : List FlowTurn
begins_kept = asked_after (modulus - 1)

-- ---- arrivals

-- data is noted as gone that isn't there: the Dead that is made answers a message that is begun later
abbrev pub NotesNothing : Machine
NotesNothing (Move.NoteGone x new) v alive = New v.to_up v.kept x × IsLost new
NotesNothing m v alive = Needs InOnePacket m v alive

abbrev pub notes_nothing : List FlowTurn
notes_nothing =
    turn (Move.TakeAnswer answer.Dead []) []
    ∷ taken_turn []
    ∷ turn (Move.Freed (dead_of 0) answer.Dead) []
    ∷ turn (Move.BeginLocal 0 first_text) (dead_of 0 ∷ [])
    ∷ turn Move.Forget (dead_of 0 ∷ [])
    ∷ turn (Move.NoteGone (data_of 0 first_text) fate.Dead) (dead_of 0 ∷ [])
    ∷ []

-- data is noted as gone at an IMP that is down: the message was taken, and Dead comes
abbrev pub NotesAway : Machine
NotesAway (Move.NoteGone x new) v alive = alive x × (is_request x.kind ≡ true) × (is_new v.kept x.number ≡ true) × IsLost new
NotesAway m v alive = Needs InOnePacket m v alive

abbrev pub notes_away : List FlowTurn
notes_away =
    turn (Move.TakeAnswer answer.Dead []) []
    ∷ turn (Move.Freed (dead_of 0) answer.Dead) []
    ∷ turn (Move.NoteGone (data_of 0 first_text) fate.Dead) (dead_of 0 ∷ [])
    ∷ turn Move.StopTo (data_of 0 first_text ∷ [])
    ∷ taken_turn (data_of 0 first_text ∷ [])
    ∷ made_whole
    ∷ begun
    ∷ []

-- data is noted as taken though its message isn't: RFNM comes before it is taken
abbrev pub NotesTaken : Machine
NotesTaken (Move.NoteGone x new) v alive = CanNote v alive x
NotesTaken m v alive = Needs InOnePacket m v alive

abbrev pub notes_taken : List FlowTurn
notes_taken =
    turn (Move.TakeAnswer answer.Rfnm []) []
    ∷ turn (Move.Freed (rfnm_of 0) answer.Rfnm) []
    ∷ turn (Move.Reply (data_of 0 first_text) Kind.Rfnm) (rfnm_of 0 ∷ [])
    ∷ turn (Move.NoteGone (data_of 0 first_text) fate.Taken) (data_of 0 first_text ∷ [])
    ∷ begun
    ∷ []

-- data is noted as gone that isn't new: the message is queued already, and Dead comes before it is taken
abbrev pub NotesOld : Machine
NotesOld (Move.NoteGone x new) v alive = alive x × (v.to_up ≡ true) × (is_request x.kind ≡ true) × IsLost new
NotesOld m v alive = Needs InOnePacket m v alive

abbrev pub notes_old : List FlowTurn
notes_old =
    turn (Move.TakeAnswer answer.Dead []) []
    ∷ taken_turn []
    ∷ turn (Move.Freed (dead_of 0) answer.Dead) []
    ∷ turn (Move.NoteGone (data_of 0 first_text) fate.Dead) (dead_of 0 ∷ [])
    ∷ made_whole
    ∷ begun
    ∷ []

-- data is made whole that isn't new: the message is taken twice
abbrev pub QueuesOld : Machine
QueuesOld (Move.Whole x text) v alive = alive x × (v.to_up ≡ true) × (is_request x.kind ≡ true) × Joined InOnePacket alive x text
QueuesOld m v alive = Needs InOnePacket m v alive

abbrev pub queues_old : List FlowTurn
queues_old = taken_turn [] ∷ turn (Move.TakeMessage (queued_text 0 first_text) (queued_text 0 first_text ∷ [])) [] ∷ made_whole ∷ made_whole ∷ begun ∷ []

-- a text is queued that the packets don't make
abbrev pub JoinsAny : Machine
JoinsAny (Move.Whole x text) v alive = CanNote v alive x
JoinsAny m v alive = Needs InOnePacket m v alive

abbrev pub joins_any : List FlowTurn
joins_any = turn (Move.TakeMessage (queued_text 0 second_text) []) [] ∷ turn (Move.Whole (data_of 0 first_text) second_text) [] ∷ begun ∷ []

-- an answer frees the outstanding message that isn't there
abbrev pub FreedByNothing : Machine
FreedByNothing (Move.Freed x kind) v alive = Brings x.kind kind × (v.outstanding ≡ Some x.number)
FreedByNothing m v alive = Needs InOnePacket m v alive

abbrev pub freed_by_nothing : List FlowTurn
freed_by_nothing = turn (Move.TakeAnswer answer.Rfnm []) [] ∷ turn (Move.Freed (rfnm_of 0) answer.Rfnm) [] ∷ begun ∷ []

-- an answer with another number frees the outstanding message
abbrev pub FreedByAny : Machine
FreedByAny (Move.Freed x kind) v alive = (number : ℕ) × alive x × Brings x.kind kind × (v.outstanding ≡ Some number)
FreedByAny m v alive = Needs InOnePacket m v alive

abbrev pub freed_by_any : List FlowTurn
freed_by_any =
    turn (Move.TakeAnswer answer.Rfnm []) []
    ∷ turn (Move.Freed (rfnm_of 0) answer.Rfnm) []
    ∷ turn (Move.Begin 2 first_text) (rfnm_of 0 ∷ [])
    ∷ turn (Move.TakeAnswer answer.Rfnm []) (rfnm_of 0 ∷ [])
    ∷ turn (Move.Freed (rfnm_of 0) answer.Rfnm) (rfnm_of 0 ∷ [])
    ∷ taken_turn (rfnm_of 0 ∷ [])
    ∷ begun_local
    ∷ []

-- a packet frees the message that doesn't bring this answer
abbrev pub FreedByData : Machine
FreedByData (Move.Freed x kind) v alive = alive x × (v.outstanding ≡ Some x.number)
FreedByData m v alive = Needs InOnePacket m v alive

abbrev pub freed_by_data : List FlowTurn
freed_by_data = turn (Move.TakeAnswer answer.Rfnm []) [] ∷ turn (Move.Freed (data_of 0 first_text) answer.Rfnm) [] ∷ begun ∷ []

-- a host takes a message that isn't queued
abbrev pub TakesNothing : Machine
TakesNothing (Move.TakeMessage oldest others) v alive = v.destination ≡ true
TakesNothing m v alive = Needs InOnePacket m v alive

abbrev pub takes_nothing : List FlowTurn
takes_nothing = taken_turn [] ∷ []

-- a host takes an answer that doesn't wait
abbrev pub ToldNothing : Machine
ToldNothing (Move.TakeAnswer oldest others) v alive = Unit {0}
ToldNothing m v alive = Needs InOnePacket m v alive

abbrev pub told_nothing : List FlowTurn
told_nothing = turn (Move.TakeAnswer answer.Rfnm []) [] ∷ []

-- a host takes a message while it is down
abbrev pub TakesDown : Machine
TakesDown (Move.TakeMessage oldest others) v alive = v.queue ≡ oldest ∷ others
TakesDown m v alive = Needs InOnePacket m v alive

abbrev pub takes_down : List FlowTurn
takes_down = taken_turn [] ∷ begun_local ∷ turn Move.StopDestination [] ∷ []

-- ---- hosts and IMPs

-- a host goes down that is down, or comes up that is up, as a source and as a destination
abbrev pub SourceStopsTwice : Machine
SourceStopsTwice Move.StopSource v alive = Unit {0}
SourceStopsTwice m v alive = Needs InOnePacket m v alive

abbrev pub source_stops_twice : List FlowTurn
source_stops_twice = turn Move.StopSource [] ∷ turn Move.StopSource [] ∷ []

abbrev pub DestinationStopsTwice : Machine
DestinationStopsTwice Move.StopDestination v alive = Unit {0}
DestinationStopsTwice m v alive = Needs InOnePacket m v alive

abbrev pub destination_stops_twice : List FlowTurn
destination_stops_twice = turn Move.StopDestination [] ∷ turn Move.StopDestination [] ∷ []

abbrev pub SourceStartsTwice : Machine
SourceStartsTwice Move.StartSource v alive = (v.from_up ≡ true) × (v.outstanding ≡ None)
SourceStartsTwice m v alive = Needs InOnePacket m v alive

abbrev pub source_starts_twice : List FlowTurn
source_starts_twice = turn Move.StartSource [] ∷ []

abbrev pub DestinationStartsTwice : Machine
DestinationStartsTwice Move.StartDestination v alive = Unit {0}
DestinationStartsTwice m v alive = Needs InOnePacket m v alive

abbrev pub destination_starts_twice : List FlowTurn
destination_starts_twice = turn Move.StartDestination [] ∷ []

-- a host comes up at an IMP that is down: its message is taken though its box is empty
abbrev pub StartsAway : Machine
StartsAway Move.StartSource v alive = (v.source ≡ false) × (v.outstanding ≡ None)
StartsAway m v alive = Needs InOnePacket m v alive

abbrev pub starts_away : List FlowTurn
starts_away = taken_turn [] ∷ turn Move.StartSource [] ∷ turn Move.StopFrom [] ∷ begun_local ∷ []

-- a host comes up while its message is outstanding: it is taken though its box is empty
abbrev pub StartsUnsettled : Machine
StartsUnsettled Move.StartSource v alive = (v.from_up ≡ true) × (v.source ≡ false)
StartsUnsettled m v alive = Needs InOnePacket m v alive

abbrev pub starts_unsettled : List FlowTurn
starts_unsettled = taken_turn [] ∷ turn Move.StartSource [] ∷ turn Move.StopSource [] ∷ begun_local ∷ []

-- the source's IMP comes up while a packet is alive: a message of its life before is taken though the box is empty
abbrev pub StartsAlive : Machine
StartsAlive Move.StartFrom v alive = v.queue ≡ []
StartsAlive m v alive = Needs InOnePacket m v alive

abbrev pub starts_alive : List FlowTurn
starts_alive =
    taken_turn []
    ∷ turn Move.StartSource []
    ∷ turn (Move.Whole (data_of 0 first_text) first_text) []
    ∷ turn Move.StartFrom (data_of 0 first_text ∷ [])
    ∷ turn Move.StopFrom (data_of 0 first_text ∷ [])
    ∷ begun
    ∷ []

-- .. and while a message is queued
abbrev pub StartsQueued : Machine
StartsQueued Move.StartFrom v alive = (x : Packet) → alive x → ⊥
StartsQueued m v alive = Needs InOnePacket m v alive

abbrev pub starts_queued : List FlowTurn
starts_queued = taken_turn [] ∷ turn Move.StartSource [] ∷ turn Move.StartFrom [] ∷ turn Move.StopFrom [] ∷ begun_local ∷ []

-- the destination's IMP comes up while data is alive, and has forgotten what it noted: the message is taken twice
abbrev pub ReturnsAlive : Machine
ReturnsAlive Move.StartTo v alive = v.outstanding ≡ None
ReturnsAlive m v alive = Needs InOnePacket m v alive

abbrev pub returns_alive : List FlowTurn
returns_alive =
    taken_turn []
    ∷ turn (Move.Whole (data_of 0 first_text) first_text) []
    ∷ turn Move.StartTo (data_of 0 first_text ∷ [])
    ∷ turn Move.StartDestination (data_of 0 first_text ∷ [])
    ∷ turn Move.StopTo (data_of 0 first_text ∷ [])
    ∷ turn (Move.Freed (rfnm_of 0) answer.Rfnm) (data_of 0 first_text ∷ [])
    ∷ taken_turn (rfnm_of 0 ∷ data_of 0 first_text ∷ [])
    ∷ made_whole
    ∷ begun
    ∷ []

-- it comes up while a message is outstanding that was taken: a question of it is new, and the source gets NotTaken
abbrev pub ReturnsAwaited : Machine
ReturnsAwaited Move.StartTo v alive = (x : Packet) → alive x → is_request x.kind ≡ true → ⊥
ReturnsAwaited m v alive = Needs InOnePacket m v alive

-- the outstanding message is asked for, noted as never come, and its source is informed so
abbrev pub told_never : List FlowTurn → List FlowTurn
told_never turns =
    turn (Move.TakeAnswer answer.NotTaken []) []
    ∷ turn (Move.Freed (never_of 0) answer.NotTaken) []
    ∷ turn (Move.NoteGone (ask_of 0) fate.Never) (never_of 0 ∷ [])
    ∷ turn (Move.Asks 0) (ask_of 0 ∷ [])
    ∷ turns

abbrev pub returns_awaited : List FlowTurn
returns_awaited = told_never (turn Move.StartTo [] ∷ turn Move.StopTo [] ∷ taken_turn [] ∷ begun_local ∷ [])

-- it forgets its number while a message is outstanding that was taken: the same
abbrev pub ForgetsAwaited : Machine
ForgetsAwaited Move.Forget v alive = (x : Packet) → alive x → is_request x.kind ≡ true → ⊥
ForgetsAwaited m v alive = Needs InOnePacket m v alive

abbrev pub forgets_awaited : List FlowTurn
forgets_awaited = told_never (turn Move.Forget [] ∷ taken_turn [] ∷ begun_local ∷ [])

-- it forgets its number while data is alive: the message is taken twice
abbrev pub ForgetsAlive : Machine
ForgetsAlive Move.Forget v alive = v.outstanding ≡ None
ForgetsAlive m v alive = Needs InOnePacket m v alive

abbrev pub forgets_alive : List FlowTurn
forgets_alive =
    taken_turn []
    ∷ turn (Move.Whole (data_of 0 first_text) first_text) []
    ∷ turn Move.Forget (data_of 0 first_text ∷ [])
    ∷ turn (Move.Freed (rfnm_of 0) answer.Rfnm) (data_of 0 first_text ∷ [])
    ∷ taken_turn (rfnm_of 0 ∷ data_of 0 first_text ∷ [])
    ∷ made_whole
    ∷ begun
    ∷ []

-- ---- giving up

-- a message is given up though none is outstanding
abbrev pub GivesUpNothing : Machine
GivesUpNothing (Move.GiveUp number) v alive = ((x : Packet) → alive x → (is_request x.kind ≡ true) → (x.number ≡ number) → ⊥) × ((q : Queued) → Contains v.queue q → (q.number ≡ number) → ⊥)
GivesUpNothing m v alive = Needs InOnePacket m v alive

abbrev pub gives_up_nothing : List FlowTurn
gives_up_nothing = turn (Move.TakeAnswer answer.Incomplete []) [] ∷ turn (Move.GiveUp 0) [] ∷ []

-- a message is given up of which a piece is alive: it is taken after Incomplete was
abbrev pub GivesUpAlive : Machine
GivesUpAlive (Move.GiveUp number) v alive = (v.outstanding ≡ Some number) × ((q : Queued) → Contains v.queue q → (q.number ≡ number) → ⊥)
GivesUpAlive m v alive = Needs InOnePacket m v alive

abbrev pub gives_up_alive : List FlowTurn
gives_up_alive =
    taken_turn []
    ∷ turn (Move.TakeAnswer answer.Incomplete []) []
    ∷ turn (Move.Whole (data_of 0 first_text) first_text) []
    ∷ turn (Move.GiveUp 0) (data_of 0 first_text ∷ [])
    ∷ begun
    ∷ []

-- a message is given up that is queued
abbrev pub GivesUpQueued : Machine
GivesUpQueued (Move.GiveUp number) v alive = (v.outstanding ≡ Some number) × ((x : Packet) → alive x → (is_request x.kind ≡ true) → (x.number ≡ number) → ⊥)
GivesUpQueued m v alive = Needs InOnePacket m v alive

abbrev pub gives_up_queued : List FlowTurn
gives_up_queued = taken_turn [] ∷ turn (Move.TakeAnswer answer.Incomplete []) [] ∷ turn (Move.GiveUp 0) [] ∷ begun_local ∷ []

-- ---- questions

-- a message is asked for that isn't outstanding: what is answered fits a message that is begun later
abbrev pub AsksAnything : Machine
AsksAnything (Move.Asks number) v alive = Unit {0}
AsksAnything m v alive = Needs InOnePacket m v alive

abbrev pub asks_anything : List FlowTurn
asks_anything =
    turn (Move.TakeAnswer answer.NotTaken []) []
    ∷ taken_turn []
    ∷ turn (Move.Freed (never_of 0) answer.NotTaken) []
    ∷ turn (Move.BeginLocal 0 first_text) (never_of 0 ∷ [])
    ∷ turn Move.Forget (never_of 0 ∷ [])
    ∷ turn (Move.NoteGone (ask_of 0) fate.Never) (never_of 0 ∷ [])
    ∷ turn (Move.Asks 0) (ask_of 0 ∷ [])
    ∷ []

-- something is said though no packet is there: it outlives the source's IMP, and fits the first message after it
abbrev pub RepliesToNothing : Machine
RepliesToNothing (Move.Reply x told) v alive = (v.kept ≡ Some x.number) × Tells v.fate told
RepliesToNothing m v alive = Needs InOnePacket m v alive

abbrev pub replies_to_nothing : List FlowTurn
replies_to_nothing =
    turn (Move.TakeAnswer answer.Rfnm []) []
    ∷ turn (Move.Freed (rfnm_of 0) answer.Rfnm) []
    ∷ turn (Move.Begin 0 first_text) (rfnm_of 0 ∷ [])
    ∷ turn Move.Forget (rfnm_of 0 ∷ [])
    ∷ turn (Move.Reply (ask_of 0) Kind.Rfnm) (rfnm_of 0 ∷ [])
    ∷ turn Move.StartSource []
    ∷ turn Move.StartFrom []
    ∷ turn Move.StopFrom []
    ∷ taken_turn []
    ∷ begun_local
    ∷ []

-- a question is answered by the fate of another message
abbrev pub RepliesToAny : Machine
RepliesToAny (Move.Reply x told) v alive = alive x × Tells v.fate told
RepliesToAny m v alive = Needs InOnePacket m v alive

-- the number after 0
abbrev pub second : ℕ
second = next_number (Some 0)

abbrev pub replies_to_any : List FlowTurn
replies_to_any =
    turn (Move.TakeAnswer answer.Rfnm []) []
    ∷ turn (Move.Freed (rfnm_of second) answer.Rfnm) []
    ∷ turn (Move.Reply (ask_of second) Kind.Rfnm) (rfnm_of second ∷ [])
    ∷ turn (Move.Asks second) (ask_of second ∷ [])
    ∷ turn (Move.Begin 0 second_text) []
    ∷ turn (Move.TakeAnswer answer.Rfnm []) []
    ∷ turn (Move.Freed (rfnm_of 0) answer.Rfnm) []
    ∷ taken_turn (rfnm_of 0 ∷ [])
    ∷ begun_local
    ∷ []

-- something is informed that isn't true: Dead of a message that waits, which is taken then
abbrev pub RepliesFalsely : Machine
RepliesFalsely (Move.Reply x told) v alive = alive x × (v.kept ≡ Some x.number)
RepliesFalsely m v alive = Needs InOnePacket m v alive

abbrev pub replies_falsely : List FlowTurn
replies_falsely =
    turn (Move.TakeAnswer answer.Dead []) []
    ∷ turn (Move.Freed (dead_of 0) answer.Dead) []
    ∷ taken_turn (dead_of 0 ∷ [])
    ∷ turn (Move.Reply (ask_of 0) Kind.Dead) (dead_of 0 ∷ [])
    ∷ turn (Move.Asks 0) (ask_of 0 ∷ [])
    ∷ begun_local
    ∷ []

-- a question is answered by Never while its message waits: it is taken after that
abbrev pub NeverOfWaiting : Machine
NeverOfWaiting (Move.Reply x told) v alive = alive x × (v.kept ≡ Some x.number) × (v.fate ≡ fate.Waits) × (told ≡ Kind.Never)
NeverOfWaiting m v alive = Needs InOnePacket m v alive

abbrev pub never_of_waiting : List FlowTurn
never_of_waiting =
    turn (Move.TakeAnswer answer.NotTaken []) []
    ∷ turn (Move.Freed (never_of 0) answer.NotTaken) []
    ∷ taken_turn (never_of 0 ∷ [])
    ∷ turn (Move.Reply (ask_of 0) Kind.Never) (never_of 0 ∷ [])
    ∷ turn (Move.Asks 0) (ask_of 0 ∷ [])
    ∷ begun_local
    ∷ []

-- a question is answered by Never though its message was taken
abbrev pub NeverOfTaken : Machine
NeverOfTaken (Move.Reply x told) v alive = alive x × (v.kept ≡ Some x.number) × (v.fate ≡ fate.Taken) × (told ≡ Kind.Never)
NeverOfTaken m v alive = Needs InOnePacket m v alive

abbrev pub never_of_taken : List FlowTurn
never_of_taken =
    turn (Move.TakeAnswer answer.NotTaken []) []
    ∷ turn (Move.Freed (never_of 0) answer.NotTaken) []
    ∷ turn (Move.Reply (ask_of 0) Kind.Never) (never_of 0 ∷ [])
    ∷ turn (Move.Asks 0) (ask_of 0 ∷ [])
    ∷ taken_turn []
    ∷ begun_local
    ∷ []

-- a question about a new number is answered by Never, and the number isn't noted: the message is made whole and taken after that
abbrev pub NeverUnnoted : Machine
NeverUnnoted (Move.Reply x told) v alive = CanNote v alive x × (told ≡ Kind.Never)
NeverUnnoted m v alive = Needs InOnePacket m v alive

abbrev pub never_unnoted : List FlowTurn
never_unnoted =
    turn (Move.TakeAnswer answer.NotTaken []) []
    ∷ turn (Move.Freed (never_of 0) answer.NotTaken) []
    ∷ taken_turn (never_of 0 ∷ [])
    ∷ turn (Move.Whole (data_of 0 first_text) first_text) (never_of 0 ∷ [])
    ∷ turn (Move.Reply (ask_of 0) Kind.Never) (never_of 0 ∷ data_of 0 first_text ∷ [])
    ∷ turn (Move.Asks 0) (ask_of 0 ∷ data_of 0 first_text ∷ [])
    ∷ begun
    ∷ []
