-- What an IMP, a line or a host can do to one flow.
--
-- A move says what it needs, what it changes, which packets it may make, and what the hosts see of it. Packets may
-- be lost, copied and overtaken at any time: after a move any of those before it and of those it made may be alive.
-- A move asks for no room, no route and no order of packets, so that an IMP that looks at these makes some of the moves.
use Rattle.std.specs.Prelude.{◌≡◌, ◌≢◌, ℕ, Bool, true, false, List, [], ◌∷◌, ◌++◌, Option, Some, None, ◌⊎◌, if◌then◌else◌, ◌==◌}
use Rattle.std.specs.List.{Contains}
use Rattle.interface.specs.declared.crossing.Answer.{Answer}
use Rattle.interface.specs.declared.crossing.Answer.TheVariants as answer
use Rattle.interface.specs.Mailboxes.{Box, Passing, fetched}
use Rattle.link_table.specs.Numbers.{next, oldest, is_new}
use Rattle.link_table.specs.declared.destination.Fate.{Fate}
use Rattle.link_table.specs.declared.destination.Fate.TheVariants as fate
use Rattle.flow_law.specs.View.{View, Packet, Queued, Kind, is_request, is_refusal}

-- `Piece text x`: packet x carries a piece of the text. How a text is cut into pieces is left open here.

pub data Move : Type 0 where
  -- nothing, but packets may be lost, copied and overtaken as at any move
  Quiet : Move
  -- the source offers a message that cannot be sent: Dead waits for it at once
  DeadNow : (place : ℕ) → (text : List Bool) → Move
  -- the source offers a message, which gets the next number and is cut into packets
  Begin : (place : ℕ) → (text : List Bool) → Move
  -- the same within one IMP: the number is noted and the message queued at once
  BeginLocal : (place : ℕ) → (text : List Bool) → Move
  -- a new request x came, and its number is noted with this fate, without the message being taken: the host is down, the body
  -- has no mark, or all that came of the message is a question
  NoteGone : (x : Packet) → (new : Fate) → Move
  -- a new request x came, and the data with its number make this text whole: the number is noted and the message queued
  Whole : (x : Packet) → (text : List Bool) → Move
  -- packet x notified the source's IMP of what became of the outstanding message: the answer waits for the source, if it is up
  Freed : (x : Packet) → (kind : Answer) → Move
  -- the destination takes the oldest message, and the others stay
  TakeMessage : (oldest : Queued) → (others : List Queued) → Move
  -- the source takes the oldest answer, and the others stay
  TakeAnswer : (oldest : Answer) → (others : List Answer) → Move
  -- the source goes down, and comes up
  StopSource : Move
  StartSource : Move
  -- the destination goes down, and comes up
  StopDestination : Move
  StartDestination : Move
  -- the source's IMP goes down, with the source, and comes up
  StopFrom : Move
  StartFrom : Move
  -- the destination's IMP goes down, with the destination, and comes up
  StopTo : Move
  StartTo : Move
  -- the source's IMP gives up the outstanding message, which has this number
  GiveUp : (number : ℕ) → Move
  -- the destination's IMP forgets the number that it noted last
  Forget : Move
  -- the source's IMP asks what became of the outstanding message, which has this number
  Asks : (number : ℕ) → Move
  -- packet x is about the number that was noted last, and the destination's IMP reports what became of that message
  Reply : (x : Packet) → (told : Kind) → Move

-- ---- what they speak of

-- the number of the next message
abbrev pub next_number : Option ℕ → ℕ
next_number None = 0
next_number (Some last) = next last

-- the destination would take this packet's message as new
pub record New (to_up : Bool) (kept : Option ℕ) (x : Packet) : Type 0 where
  pub up : to_up ≡ true
  pub request : is_request x.kind ≡ true
  pub new : is_new kept x.number ≡ true

-- which answer a packet brings
abbrev pub Brings : Kind → Answer → Type 0
Brings Kind.Rfnm answer.Rfnm = Unit {0}
Brings Kind.Dead answer.Dead = Unit {0}
Brings Kind.Never answer.NotTaken = Unit {0}
Brings kind told = ⊥

-- the message of this number met this fate, if that number is the one noted last
abbrev pub with_fate : Option ℕ → ℕ → Fate → Fate → Fate
with_fate None number new old = old
with_fate (Some kept) number new old = if kept == number then new else old

-- all messages of a queue met this fate
abbrev pub with_fates : Option ℕ → List Queued → Fate → Fate → Fate
with_fates kept [] new old = old
with_fates kept (message ∷ others) new old = with_fates kept others new (with_fate kept message.number new old)

-- a fate of a message that wasn't taken and never will be
abbrev pub IsLost : Fate → Type 0
IsLost fate.Waits = ⊥
IsLost fate.Taken = ⊥
IsLost fate.Dead = Unit {0}
IsLost fate.Never = Unit {0}

-- a packet of this kind reports the truth about a message of this fate; of one that waits nobody is notified
abbrev pub Tells : Fate → Kind → Type 0
Tells fate.Waits told = ⊥
Tells fate.Taken told = told ≡ Kind.Rfnm
Tells fate.Dead told = is_refusal told ≡ true
Tells fate.Never told = is_refusal told ≡ true

-- an answer waits for a host that is up, after the others
abbrev pub with_answer : Bool → Answer → List Answer → List Answer
with_answer source kind answers = if source then answers ++ kind ∷ [] else answers

-- a message from its number and its text
abbrev pub queued_text : ℕ → List Bool → Queued
queued_text number text = record { number = number; text = text }

-- ---- what a move needs

-- the source may offer a message: it is up, none of its own is outstanding, and no answer waits for it
pub record CanOffer (v : View) : Type 0 where
  pub source : v.source ≡ true
  pub idle : v.outstanding ≡ None
  pub answered : v.answers ≡ []

-- nothing is alive that would be too old once the next number is begun
abbrev pub NumberFree : View → (Packet → Type 0) → Type 0
NumberFree v alive = (last : ℕ) → v.last ≡ Some last → (x : Packet) → alive x → x.number ≢ oldest last

-- and its message may get a number, which isn't the one noted last
pub record CanBegin (v : View) (alive : Packet → Type 0) : Type 0 where
  pub offer : CanOffer v
  pub free : NumberFree v alive
  pub unkept : v.kept ≢ Some (next_number v.last)

-- a new request is there
pub record CanNote (v : View) (alive : Packet → Type 0) (x : Packet) : Type 0 where
  pub there : alive x
  pub new : New v.to_up v.kept x

-- every text of which all data with the packet's number are pieces is this text
abbrev pub Joined : (List Bool → Packet → Type 0) → (Packet → Type 0) → Packet → List Bool → Type 0
Joined Piece alive x text = (whole : List Bool) → ((y : Packet) → alive y → y.kind ≡ Kind.Data → y.number ≡ x.number → Piece whole y) → text ≡ whole

-- a new request is there, and its message is whole
pub record CanQueue (Piece : List Bool → Packet → Type 0) (v : View) (alive : Packet → Type 0) (x : Packet) (text : List Bool) : Type 0 where
  pub note : CanNote v alive x
  pub joined : Joined Piece alive x text

-- a packet brings the answer to the outstanding message
pub record CanFree (v : View) (alive : Packet → Type 0) (x : Packet) (kind : Answer) : Type 0 where
  pub there : alive x
  pub brings : Brings x.kind kind
  pub awaited : v.outstanding ≡ Some x.number

pub record CanTakeMessage (v : View) (oldest : Queued) (others : List Queued) : Type 0 where
  pub destination : v.destination ≡ true
  pub waits : v.queue ≡ oldest ∷ others

-- a host comes up at an IMP that is up, while nothing of it is outstanding
pub record CanStartSource (v : View) : Type 0 where
  pub from_up : v.from_up ≡ true
  pub down : v.source ≡ false
  pub idle : v.outstanding ≡ None

-- the source's IMP comes up when nothing of the flow is left
pub record CanStartFrom (v : View) (alive : Packet → Type 0) : Type 0 where
  pub no_packet : (x : Packet) → alive x → ⊥
  pub unread : v.queue ≡ []

-- the destination's IMP may lose the number noted last when no request of the flow is alive and no message outstanding
pub record CanForget (v : View) (alive : Packet → Type 0) : Type 0 where
  pub no_request : (x : Packet) → alive x → is_request x.kind ≡ true → ⊥
  pub idle : v.outstanding ≡ None

-- the outstanding message is given up when no request of it is alive and it isn't queued
pub record CanGiveUp (v : View) (alive : Packet → Type 0) (number : ℕ) : Type 0 where
  pub awaited : v.outstanding ≡ Some number
  pub no_request : (x : Packet) → alive x → is_request x.kind ≡ true → x.number ≢ number
  pub unread : (q : Queued) → Contains v.queue q → q.number ≢ number

-- a packet with the number noted last is there, and what is said is true
pub record CanReply (v : View) (alive : Packet → Type 0) (x : Packet) (told : Kind) : Type 0 where
  pub there : alive x
  pub kept : v.kept ≡ Some x.number
  pub tells : Tells v.fate told

abbrev pub Needs : (List Bool → Packet → Type 0) → Move → View → (Packet → Type 0) → Type 0
Needs Piece Quiet v alive = Unit {0}
Needs Piece (DeadNow place text) v alive = CanOffer v
Needs Piece (Begin place text) v alive = CanBegin v alive
Needs Piece (BeginLocal place text) v alive = CanBegin v alive
Needs Piece (NoteGone x new) v alive = CanNote v alive x × IsLost new
Needs Piece (Whole x text) v alive = CanQueue Piece v alive x text
Needs Piece (Freed x kind) v alive = CanFree v alive x kind
Needs Piece (TakeMessage oldest others) v alive = CanTakeMessage v oldest others
Needs Piece (TakeAnswer oldest others) v alive = v.answers ≡ oldest ∷ others
Needs Piece StopSource v alive = v.source ≡ true
Needs Piece StartSource v alive = CanStartSource v
Needs Piece StopDestination v alive = v.destination ≡ true
Needs Piece StartDestination v alive = v.destination ≡ false
Needs Piece StopFrom v alive = Unit {0}
Needs Piece StartFrom v alive = CanStartFrom v alive
Needs Piece StopTo v alive = Unit {0}
Needs Piece StartTo v alive = CanForget v alive
Needs Piece (GiveUp number) v alive = CanGiveUp v alive number
Needs Piece Forget v alive = CanForget v alive
Needs Piece (Asks number) v alive = v.outstanding ≡ Some number
Needs Piece (Reply x told) v alive = CanReply v alive x told

-- ---- what it changes

abbrev pub view_moved : Move → View → View
view_moved Quiet v = v
view_moved (DeadNow place text) v = record v { answers = answer.Dead ∷ []; box = Box.Waiting place text }
view_moved (Begin place text) v = record v { last = Some (next_number v.last); outstanding = Some (next_number v.last); box = Box.Waiting place text }
view_moved (BeginLocal place text) v = record v {
  last = Some (next_number v.last);
  outstanding = Some (next_number v.last);
  kept = Some (next_number v.last);
  fate = fate.Waits;
  queue = v.queue ++ queued_text (next_number v.last) text ∷ [];
  box = Box.Waiting place text;
}
view_moved (NoteGone x new) v = record v { kept = Some x.number; fate = new }
view_moved (Whole x text) v = record v { kept = Some x.number; fate = fate.Waits; queue = v.queue ++ queued_text x.number text ∷ [] }
view_moved (Freed x kind) v = record v { outstanding = None; answers = with_answer v.source kind v.answers }
view_moved (TakeMessage oldest others) v = record v { fate = with_fate v.kept oldest.number fate.Taken v.fate; queue = others; box = fetched v.box }
view_moved (TakeAnswer oldest others) v = record v { answers = others; box = Box.Empty }
view_moved StopSource v = record v { source = false; answers = [] }
view_moved StartSource v = record v { source = true; box = Box.Empty }
view_moved StopDestination v = record v { destination = false; fate = with_fates v.kept v.queue fate.Dead v.fate; queue = [] }
view_moved StartDestination v = record v { destination = true }
view_moved StopFrom v = record v { from_up = false; source = false; last = None; outstanding = None; answers = [] }
view_moved StartFrom v = record v { from_up = true }
view_moved StopTo v = record v { to_up = false; destination = false; kept = None; fate = fate.Waits; queue = [] }
view_moved StartTo v = record v { to_up = true }
view_moved (GiveUp number) v = record v { outstanding = None; answers = with_answer v.source answer.Incomplete v.answers }
view_moved Forget v = record v { kept = None; fate = fate.Waits }
view_moved (Asks number) v = v
view_moved (Reply x told) v = v

-- ---- which packets it may make (it may make fewer)

-- the pieces of the text, with the message's number
pub record IsPieceOf (Piece : List Bool → Packet → Type 0) (begun : ℕ) (text : List Bool) (x : Packet) : Type 0 where
  pub data_packet : x.kind ≡ Kind.Data
  pub number : x.number ≡ begun
  pub piece : Piece text x

-- a packet of this kind and number
pub record IsTold (told : Kind) (about : ℕ) (x : Packet) : Type 0 where
  pub kind : x.kind ≡ told
  pub number : x.number ≡ about

-- a packet with this number that notifies the source that the message wasn't taken and never will be
pub record IsRefusal (about : ℕ) (x : Packet) : Type 0 where
  pub refusal : is_refusal x.kind ≡ true
  pub number : x.number ≡ about

-- Dead for a message of the queue
pub record IsDeadOf (queue : List Queued) (x : Packet) : Type 0 where
  pub kind : x.kind ≡ Kind.Dead
  pub message : Queued
  pub waited : Contains queue message
  pub number : x.number ≡ message.number

abbrev pub Makes : (List Bool → Packet → Type 0) → Move → View → Packet → Type 0
Makes Piece (Begin place text) v x = IsPieceOf Piece (next_number v.last) text x
Makes Piece (NoteGone y new) v x = IsRefusal y.number x
Makes Piece (TakeMessage oldest others) v x = IsTold Kind.Rfnm oldest.number x
Makes Piece StopDestination v x = IsDeadOf v.queue x
Makes Piece (Asks number) v x = IsTold Kind.Ask number x
Makes Piece (Reply y told) v x = IsTold told y.number x
Makes Piece m v x = ⊥

-- ---- what the hosts see of it, newest first

abbrev pub shows : Move → View → List Passing
shows (DeadNow place text) v = Passing.Put place text ∷ []
shows (Begin place text) v = Passing.Put place text ∷ []
shows (BeginLocal place text) v = Passing.Put place text ∷ []
shows (TakeMessage oldest others) v = Passing.Fetched oldest.text ∷ []
shows (TakeAnswer oldest others) v = Passing.Told oldest ∷ []
shows StopSource v = Passing.SourceDown ∷ []
shows StartSource v = Passing.SourceUp ∷ []
shows StopDestination v = Passing.DestinationDown ∷ []
shows StartDestination v = Passing.DestinationUp ∷ []
shows StopFrom v = if v.source then Passing.SourceDown ∷ [] else []
shows StopTo v = if v.destination then Passing.DestinationDown ∷ [] else []
shows m v = []

-- ---- lists of moves, newest first

abbrev pub after_all : List Move → View → View
after_all [] v = v
after_all (m ∷ ms) v = view_moved m (after_all ms v)

abbrev pub shown_by : List Move → View → List Passing
shown_by [] v = []
shown_by (m ∷ ms) v = shows m (after_all ms v) ++ shown_by ms v

-- a packet is one of the old ones or of those that were made
abbrev pub Either : (Packet → Type 0) → (Packet → Type 0) → Packet → Type 0
Either alive made x = alive x ⊎ made x

-- the packets that may be alive after the moves
abbrev pub Grown : (List Bool → Packet → Type 0) → List Move → View → (Packet → Type 0) → Packet → Type 0
Grown Piece [] v alive = alive
Grown Piece (m ∷ ms) v alive = Either (Grown Piece ms v alive) (Makes Piece m (after_all ms v))

-- each move finds what it needs
abbrev pub NeedsAll : (List Bool → Packet → Type 0) → List Move → View → (Packet → Type 0) → Type 0
NeedsAll Piece [] v alive = Unit {0}
NeedsAll Piece (m ∷ ms) v alive = Needs Piece m (after_all ms v) (Grown Piece ms v alive) × NeedsAll Piece ms v alive
