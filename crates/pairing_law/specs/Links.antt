-- All connections of two hosts, one way: one of them receives and the other sends. The receiver names the link in its request
-- (NIC 8246, RTS), and a link is that of one connection at a time.
use Rattle.std.specs.Prelude.{◌≡◌, ◌⊎◌, ℕ, ◌==◌, Bool, true, false, ◌&&◌, List, [], ◌∷◌, ◌++◌, Option, Some, None, if◌then◌else◌}
use Rattle.pairing_law.specs.Marks.{Mark, Ask, Close}
use Rattle.pairing_law.specs.Ends.{nothing}
use Rattle.pairing_law.specs.Sides.{Side, Say, Hear, Leave, May, Event, One, Two, Meet, both}

pub record Sockets : Type 0 where
  pub receive : ℕ
  pub send : ℕ

abbrev pub same : Sockets → Sockets → Bool
same s t = s.receive == t.receive && s.send == t.send

-- what one of the hosts says of a pair of sockets. The link is that of a receiver's request, and means nothing otherwise
pub record Word : Type 0 where
  pub sockets : Sockets
  pub link : ℕ
  pub mark : Mark

pub data Who : Type 0 where
  Receiver : Who
  Sender : Who

pub data Step : Type 0 where
  Says : (who : Who) → (word : Word) → Step
  Hears : (who : Who) → (word : Word) → Step
  Leaves : (who : Who) → Step
  Meets : Step

-- ---- what the two are for one pair of sockets

abbrev pub when : Bool → Event → Option Event
when test e = if test then Some e else None

abbrev pub event_at : Sockets → Step → Option Event
event_at s (Says Receiver w) = when (same s w.sockets) (One (Say w.mark))
event_at s (Says Sender w) = when (same s w.sockets) (Two (Say w.mark))
event_at s (Hears Receiver w) = when (same s w.sockets) (One (Hear w.mark))
event_at s (Hears Sender w) = when (same s w.sockets) (Two (Hear w.mark))
event_at s (Leaves Receiver) = Some (One Leave)
event_at s (Leaves Sender) = Some (Two Leave)
event_at s Meets = Some Meet

abbrev pub with_event : Option Event → List Event → List Event
with_event None events = events
with_event (Some e) events = e ∷ events

abbrev pub events_at : Sockets → List Step → List Event
events_at s [] = []
events_at s (x ∷ steps) = with_event (event_at s x) (events_at s steps)

abbrev pub receiver : Sockets → List Step → Side
receiver s steps = (both (events_at s steps)).one

abbrev pub sender : Sockets → List Step → Side
sender s steps = (both (events_at s steps)).two

-- ---- what they said and heard of all of them in their last stay, the newest first

abbrev pub still : Who → Step → Bool → Bool
still who Meets stay = true
still who (Says x w) stay = stay
still who (Hears x w) stay = stay
still Receiver (Leaves Receiver) stay = false
still Receiver (Leaves Sender) stay = stay
still Sender (Leaves Receiver) stay = stay
still Sender (Leaves Sender) stay = false

abbrev pub stays : Who → List Step → Bool
stays who [] = false
stays who (x ∷ steps) = still who x (stays who steps)

abbrev pub said_more : Who → Step → Bool → List Word → List Word
said_more who Meets stay words = []
said_more Receiver (Says Receiver w) stay words = if stay then w ∷ words else words
said_more Receiver (Says Sender w) stay words = words
said_more Sender (Says Receiver w) stay words = words
said_more Sender (Says Sender w) stay words = if stay then w ∷ words else words
said_more who (Hears x w) stay words = words
said_more who (Leaves x) stay words = words

abbrev pub said_words : Who → List Step → List Word
said_words who [] = []
said_words who (x ∷ steps) = said_more who x (stays who steps) (said_words who steps)

abbrev pub heard_more : Who → Step → List Word → List Word
heard_more who Meets words = []
heard_more Receiver (Hears Receiver w) words = w ∷ words
heard_more Receiver (Hears Sender w) words = words
heard_more Sender (Hears Receiver w) words = words
heard_more Sender (Hears Sender w) words = w ∷ words
heard_more who (Says x w) words = words
heard_more who (Leaves x) words = words

abbrev pub heard_words : Who → List Step → List Word
heard_words who [] = []
heard_words who (x ∷ steps) = heard_more who x (heard_words who steps)

-- ---- links

abbrev pub IsAmong : Word → List Word → Type 0
IsAmong w [] = ⊥
IsAmong w (v ∷ words) = (w ≡ v) ⊎ IsAmong w words

-- this request of a receiver is among the words, for these sockets, and named the link
abbrev pub Named : Option ℕ → Sockets → ℕ → List Word → Type 0
Named request s link words = (p : ℕ) × (request ≡ Some p) × IsAmong (record { sockets = s; link = link; mark = Ask p }) words

-- none of the receiver's ends that it asked for has the link
abbrev pub IsFreeLink : ℕ → List Step → Type 0
IsFreeLink link steps = (s : Sockets) → Named (receiver s steps).end.asked s link (said_words Receiver steps) → ⊥

-- none of the sender's ends has it, by a request that it took
abbrev pub IsUnused : ℕ → List Step → Type 0
IsUnused link steps = (s : Sockets) → Named (sender s steps).end.partner s link (heard_words Sender steps) → ⊥

-- ---- what may happen

-- the receiver names a link that is free
abbrev pub NamesFree : Mark → ℕ → List Step → Type 0
NamesFree (Ask p) link steps = IsFreeLink link steps
NamesFree Close link steps = Unit {0}

abbrev pub AreOlder : List Word → List Word → Type 0
AreOlder heard said = (new : List Word) × (said ≡ new ++ heard)

-- a host says what it may, and hears in a stay what its peer said there, in order
abbrev pub MayStep : Step → List Step → Type 0
MayStep (Says Receiver w) steps = May (Say w.mark) (receiver w.sockets steps) (sender w.sockets steps) × NamesFree w.mark w.link steps
MayStep (Says Sender w) steps = May (Say w.mark) (sender w.sockets steps) (receiver w.sockets steps)
MayStep (Hears Receiver w) steps = (stays Receiver steps ≡ true) × AreOlder (w ∷ heard_words Receiver steps) (said_words Sender steps)
MayStep (Hears Sender w) steps = (stays Sender steps ≡ true) × AreOlder (w ∷ heard_words Sender steps) (said_words Receiver steps)
MayStep (Leaves who) steps = Unit {0}
MayStep Meets steps = (s : Sockets) → ((receiver s steps).end ≡ nothing) × ((sender s steps).end ≡ nothing)

abbrev pub AreSteps : List Step → Type 0
AreSteps [] = Unit {0}
AreSteps (x ∷ steps) = MayStep x steps × AreSteps steps
