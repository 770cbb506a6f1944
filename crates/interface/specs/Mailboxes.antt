-- The mailboxes: what the network promises to its hosts (BBN Report 1822: one message outstanding on a link).
--
-- Each flow has one box, and each host is up or down. A crossing needs something of them and gives something. A log is
-- read newest first: what a crossing needs is looked for in the log below it, and its place is the number of crossings there.
use Rattle.std.specs.Prelude.{◌≡◌, ℕ, Bool, true, false, List, [], ◌∷◌, length, if◌then◌else◌, ◌++◌}
use Rattle.interface.specs.Host.{Host, same_host, is_host}
pub use Rattle.interface.specs.Flow.{same_flow}
use Rattle.interface.specs.declared.address.Flow.{Flow}
use Rattle.interface.specs.declared.crossing.Answer.{Answer}
use Rattle.interface.specs.declared.crossing.Answer.TheVariants as answer
use Rattle.interface.specs.declared.crossing.Crossing.{Crossing}
use Rattle.interface.specs.declared.crossing.Crossing.TheVariants as crossing

-- ---- one box

-- what is known of a flow's message: none is outstanding, or it waits to be taken, or it was taken and has no answer yet.
-- A message is given by its place in the log and its text
pub data Box : Type 0 where
  Empty : Box
  Waiting : (place : ℕ) → (text : List Bool) → Box
  Taken : (place : ℕ) → (text : List Bool) → Box

-- the text waits in the box
abbrev pub WaitsWith : Box → List Bool → Type 0
WaitsWith Empty text = ⊥
WaitsWith (Waiting place kept) text = kept ≡ text
WaitsWith (Taken place kept) text = ⊥

-- the box after its message is taken
abbrev pub fetched : Box → Box
fetched Empty = Empty
fetched (Waiting place text) = Taken place text
fetched (Taken place text) = Taken place text

-- an answer fits a box: RFNM a box whose message was taken, Dead and NotTaken one whose message waits, Incomplete either of them
abbrev pub Fits : Answer → Box → Type 0
Fits answer.Rfnm Empty = ⊥
Fits answer.Rfnm (Waiting place text) = ⊥
Fits answer.Rfnm (Taken place text) = Unit {0}
Fits answer.Dead Empty = ⊥
Fits answer.Dead (Waiting place text) = Unit {0}
Fits answer.Dead (Taken place text) = ⊥
Fits answer.Incomplete Empty = ⊥
Fits answer.Incomplete (Waiting place text) = Unit {0}
Fits answer.Incomplete (Taken place text) = Unit {0}
Fits answer.NotTaken Empty = ⊥
Fits answer.NotTaken (Waiting place text) = Unit {0}
Fits answer.NotTaken (Taken place text) = ⊥

-- ---- the boxes and the hosts after a log

-- the box of a flow after one more crossing, which is at this place
abbrev pub touched : ℕ → Flow → Crossing → Box → Box
touched place f (crossing.Out m) box = if same_flow f m.flow then Waiting place m.text else box
touched place f (crossing.In m) box = if same_flow f m.flow then fetched box else box
touched place f (crossing.Answer kind g) box = if same_flow f g then Empty else box
touched place f (crossing.Down h) box = box
touched place f (crossing.Up h) box = if same_host f.source h then Empty else box

-- the box of a flow
abbrev pub box_of : Flow → List Crossing → Box
box_of f [] = Empty
box_of f (c ∷ log) = touched (length log) f c (box_of f log)

-- whether a host is up after one more crossing
abbrev pub up_after_crossing : Host → Crossing → Bool → Bool
up_after_crossing h (crossing.Out m) up = up
up_after_crossing h (crossing.In m) up = up
up_after_crossing h (crossing.Answer kind g) up = up
up_after_crossing h (crossing.Down g) up = if same_host h g then false else up
up_after_crossing h (crossing.Up g) up = if same_host h g then true else up

-- whether a host is up: at first, every host of the network is
abbrev pub is_up : List Host → Host → List Crossing → Bool
is_up hosts h [] = is_host hosts h
is_up hosts h (c ∷ log) = up_after_crossing h c (is_up hosts h log)

-- ---- runs

-- what a crossing needs of the log below it
abbrev pub Needs : List Host → Crossing → List Crossing → Type 0
Needs hosts (crossing.Out m) log = (is_up hosts m.flow.source log ≡ true) × (box_of m.flow log ≡ Empty)
Needs hosts (crossing.In m) log = (is_up hosts m.flow.destination log ≡ true) × WaitsWith (box_of m.flow log) m.text
Needs hosts (crossing.Answer kind f) log = (is_up hosts f.source log ≡ true) × Fits kind (box_of f log)
Needs hosts (crossing.Down h) log = is_up hosts h log ≡ true
Needs hosts (crossing.Up h) log = (is_host hosts h ≡ true) × (is_up hosts h log ≡ false)

-- a log is a run of the mailboxes where each crossing found what it needs
abbrev pub IsRun : List Host → List Crossing → Type 0
IsRun hosts [] = Unit {0}
IsRun hosts (c ∷ log) = Needs hosts c log × IsRun hosts log

-- ---- only one flow

-- what a crossing is for one flow
pub data Passing : Type 0 where
  Put : (place : ℕ) → (text : List Bool) → Passing
  Fetched : (text : List Bool) → Passing
  Told : (kind : Answer) → Passing
  SourceDown : Passing
  SourceUp : Passing
  DestinationDown : Passing
  DestinationUp : Passing

-- the list with this passing at its head, if the test holds
abbrev pub first_if : Bool → Passing → List Passing → List Passing
first_if test p ps = if test then p ∷ ps else ps

-- A host may be both ends of a flow. Then it passes as the source first, and as the destination after that
abbrev pub passings : ℕ → Flow → Crossing → List Passing
passings place f (crossing.Out m) = first_if (same_flow f m.flow) (Put place m.text) []
passings place f (crossing.In m) = first_if (same_flow f m.flow) (Fetched m.text) []
passings place f (crossing.Answer kind g) = first_if (same_flow f g) (Told kind) []
passings place f (crossing.Down h) = first_if (same_host f.destination h) DestinationDown (first_if (same_host f.source h) SourceDown [])
passings place f (crossing.Up h) = first_if (same_host f.destination h) DestinationUp (first_if (same_host f.source h) SourceUp [])

-- a flow's part of a log, newest first
abbrev pub passed : Flow → List Crossing → List Passing
passed f [] = []
passed f (c ∷ log) = passings (length log) f c ++ passed f log

-- one flow: its two hosts up or down, and its box
pub record Mail : Type 0 where
  pub source : Bool
  pub destination : Bool
  pub box : Box

-- a flow at first
abbrev pub opening_mail : List Host → Flow → Mail
opening_mail hosts f = record { source = is_host hosts f.source; destination = is_host hosts f.destination; box = Empty }

-- what a passing needs
abbrev pub MailNeeds : Passing → Mail → Type 0
MailNeeds (Put place text) m = (m.source ≡ true) × (m.box ≡ Empty)
MailNeeds (Fetched text) m = (m.destination ≡ true) × WaitsWith m.box text
MailNeeds (Told kind) m = (m.source ≡ true) × Fits kind m.box
MailNeeds SourceDown m = m.source ≡ true
MailNeeds SourceUp m = m.source ≡ false
MailNeeds DestinationDown m = m.destination ≡ true
MailNeeds DestinationUp m = m.destination ≡ false

-- what a passing changes
abbrev pub mail_after : Passing → Mail → Mail
mail_after (Put place text) m = record m { box = Waiting place text }
mail_after (Fetched text) m = record m { box = fetched m.box }
mail_after (Told kind) m = record m { box = Empty }
mail_after SourceDown m = record m { source = false }
mail_after SourceUp m = record m { source = true; box = Empty }
mail_after DestinationDown m = record m { destination = false }
mail_after DestinationUp m = record m { destination = true }

-- the flow after its passings
abbrev pub mail_of : Mail → List Passing → Mail
mail_of start [] = start
mail_of start (p ∷ ps) = mail_after p (mail_of start ps)

-- a flow's passings are a run of its box where each found what it needs
abbrev pub IsFlowRun : Mail → List Passing → Type 0
IsFlowRun start [] = Unit {0}
IsFlowRun start (p ∷ ps) = MailNeeds p (mail_of start ps) × IsFlowRun start ps

-- only hosts of the network come up
abbrev pub UpsAreHosts : List Host → List Crossing → Type 0
UpsAreHosts hosts [] = Unit {0}
UpsAreHosts hosts (crossing.Up h ∷ log) = (is_host hosts h ≡ true) × UpsAreHosts hosts log
UpsAreHosts hosts (c ∷ log) = UpsAreHosts hosts log

-- each flow's part of a log is a run of its own box and its two hosts
pub record EachIsRun (hosts : List Host) (log : List Crossing) : Type 0 where
  pub flows : (f : Flow) → IsFlowRun (opening_mail hosts f) (passed f log)
  pub ups : UpsAreHosts hosts log
