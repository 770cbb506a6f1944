-- What holds of a flow after every list of moves, in clauses of which each says one thing.
--
-- Only requests that the destination would take for new matter. Each clause speaks of the present state, and of one or two packets
-- at a time; none counts packets, and none asks where they are. So each still holds when packets are lost.
use Rattle.std.specs.Prelude.{◌≡◌, ◌≢◌, ℕ, ◌<◌, Bool, true, false, List, [], ◌∷◌, Option, Some, None, ◌⊎◌}
use Rattle.interface.specs.declared.crossing.Answer.{Answer}
use Rattle.interface.specs.declared.crossing.Answer.TheVariants as answer
use Rattle.interface.specs.Mailboxes.{Box, Fits}
use Rattle.link_table.specs.Numbers.{modulus, Near}
use Rattle.link_table.specs.declared.destination.Fate.{Fate}
use Rattle.link_table.specs.declared.destination.Fate.TheVariants as fate
use Rattle.flow_law.specs.View.{View, Packet, Queued, Kind, is_request, is_refusal}
use Rattle.flow_law.specs.Moves.{New, queued_text}

-- the number was begun, and is at most a window before the last one
pub record Begun (last : Option ℕ) (number : ℕ) : Type 0 where
  pub begun : ℕ
  pub is : last ≡ Some begun
  pub near : Near begun number

-- the packet is a question, or carries a piece of the text that waits in the box, and no message is queued
pub record Carried (Piece : List Bool → Packet → Type 0) (box : Box) (queue : List Queued) (x : Packet) : Type 0 where
  pub place : ℕ
  pub text : List Bool
  pub waits : box ≡ Box.Waiting place text
  pub unread : queue ≡ []
  pub piece : x.kind ≡ Kind.Data → Piece text x

-- one message is queued: the one that waits in the box, and that is outstanding if the source's IMP is up
pub record Held (from_up : Bool) (outstanding : Option ℕ) (queue : List Queued) (box : Box) : Type 0 where
  pub number : ℕ
  pub place : ℕ
  pub text : List Bool
  pub one : queue ≡ queued_text number text ∷ []
  pub waits : box ≡ Box.Waiting place text
  pub awaited : from_up ≡ true → outstanding ≡ Some number

-- the message that waits in the box can't be taken any more
pub record Gone (to_up : Bool) (kept : Option ℕ) (queue : List Queued) (box : Box) (alive : Packet → Type 0) : Type 0 where
  pub waiting : Fits answer.Dead box
  pub unread : queue ≡ []
  pub none : (y : Packet) → alive y → New to_up kept y → ⊥

-- the message waits in the box, and isn't queued
pub record Lost (queue : List Queued) (box : Box) : Type 0 where
  pub waiting : Fits answer.Dead box
  pub unread : queue ≡ []

-- so it is with the message of this number, and its source wasn't informed that it never will be taken
pub record Unnoted (number : ℕ) (queue : List Queued) (box : Box) (alive : Packet → Type 0) : Type 0 where
  pub lost : Lost queue box
  pub none : (x : Packet) → alive x → is_refusal x.kind ≡ true → x.number ≢ number

-- what a fate says of the outstanding message: it is queued, it was taken, or it is lost
abbrev pub FateSays : Fate → List Queued → Box → Type 0
FateSays fate.Waits queue box = queue ≢ []
FateSays fate.Taken queue box = Fits answer.Rfnm box
FateSays fate.Dead queue box = Lost queue box
FateSays fate.Never queue box = Lost queue box

-- what is kept is true of the outstanding message, which has this number; an IMP that is up and keeps another, or none, never noted it
pub record Fated (number : ℕ) (to_up : Bool) (kept : Option ℕ) (new : Fate) (queue : List Queued) (box : Box) (alive : Packet → Type 0) : Type 0 where
  pub other : to_up ≡ true → kept ≢ Some number → Unnoted number queue box alive
  pub same : kept ≡ Some number → FateSays new queue box

-- no answer waits, and the box isn't empty
pub record Busy (answers : List Answer) (box : Box) : Type 0 where
  pub none : answers ≡ []
  pub full : Fits answer.Incomplete box

-- nothing is in progress
pub record Idle (answers : List Answer) (box : Box) : Type 0 where
  pub none : answers ≡ []
  pub empty : box ≡ Box.Empty

-- one answer waits, and fits the box
pub record Answered (answers : List Answer) (box : Box) : Type 0 where
  pub kind : Answer
  pub one : answers ≡ kind ∷ []
  pub fits : Fits kind box

pub record Invariant (Piece : List Bool → Packet → Type 0) (v : View) (alive : Packet → Type 0) : Type 0 where
  -- Numbers are below the modulus: the window is about such numbers only.
  pub range : (last : ℕ) → v.last ≡ Some last → last < modulus
  -- The outstanding number is the one begun last: so a packet of it lies within the window, and the next number is another.
  pub begun : (number : ℕ) → v.outstanding ≡ Some number → v.last ≡ Some number
  -- A number is outstanding only at an IMP that is up: so whoever has one knows what it means.
  pub sender : (number : ℕ) → v.outstanding ≡ Some number → v.from_up ≡ true
  -- A host is up only at an IMP that is up: so what holds while the source's IMP is up holds when the source does something.
  pub home : v.source ≡ true → v.from_up ≡ true
  -- No answer waits for a source that is down: so none waits when it comes up with an empty box.
  pub away : v.source ≡ false → v.answers ≡ []
  -- While the source's IMP is up, whatever is alive is at most a window before the last number: so what was noted makes
  -- all that is alive old, and no packet carries a number that is about to be given again.
  pub window : v.from_up ≡ true → (x : Packet) → alive x → Begun v.last x.number
  -- A new request belongs to the outstanding message: so there is none when nothing is outstanding.
  pub expected : v.from_up ≡ true → (x : Packet) → alive x → New v.to_up v.kept x → v.outstanding ≡ Some x.number
  -- New data carries a piece of the text in the box: so what is joined of it is that text. And while a request is new, that
  -- text waits there and isn't queued.
  pub carried : (x : Packet) → alive x → New v.to_up v.kept x → Carried Piece v.box v.queue x
  -- The source's IMP is down and its numbers are gone. Then all requests are at most a window before a new one: so to note a
  -- new one still makes all old.
  pub orphaned : v.from_up ≡ false → (x y : Packet) → alive x → New v.to_up v.kept x → alive y → is_request y.kind ≡ true → Near x.number y.number
  -- At most one message is queued, and it is the one in the box: so what the destination takes is what was put in.
  pub waiting : (v.queue ≡ []) ⊎ Held v.from_up v.outstanding v.queue v.box
  -- RFNM of the outstanding number is alive only when the message was taken: so the source learns the truth.
  pub taken : (x : Packet) → alive x → x.kind ≡ Kind.Rfnm → v.outstanding ≡ Some x.number → Fits answer.Rfnm v.box
  -- A refusal, Dead or Never, of the outstanding number is alive only when the message wasn't taken and never will be.
  pub dead : (x : Packet) → alive x → is_refusal x.kind ≡ true → v.outstanding ≡ Some x.number → Gone v.to_up v.kept v.queue v.box alive
  -- What the destination's IMP keeps is true of the outstanding message: so a question learns the truth.
  pub fated : (number : ℕ) → v.outstanding ≡ Some number → Fated number v.to_up v.kept v.fate v.queue v.box alive
  -- While a message is outstanding its box isn't empty and no answer waits: so there is one answer to a message.
  pub busy : (number : ℕ) → v.outstanding ≡ Some number → Busy v.answers v.box
  -- While none is and the source is up, the box is empty, or one answer waits that fits it.
  pub settled : v.source ≡ true → v.outstanding ≡ None → Idle v.answers v.box ⊎ Answered v.answers v.box
